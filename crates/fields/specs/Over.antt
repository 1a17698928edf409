-- A text at the front of a buffer.
use Rattle.std.specs.Prelude.{List, ◌++◌, ℕ, length, drop}

-- what a call leaves that stores the text at the front of a buffer
unfoldable pub over : List ℕ → List ℕ → List ℕ
over text old = text ++ drop (length text) old
