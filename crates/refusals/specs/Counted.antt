-- What a call answers that counts, message columns or the bytes of a text at the front of its buffer: the count, or the number that refuses it.
use Rattle.std.specs.Prelude.{ℕ, Result, Ok, Err}

abbrev pub Counted : Type 0
Counted = Result ℕ ℕ

abbrev pub Count : ℕ → Counted
Count n = Ok n

abbrev pub Refused : ℕ → Counted
Refused k = Err k
