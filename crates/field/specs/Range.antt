-- Widths of the table and elements of a width, as tests.
use Rattle.std.specs.Prelude.{Bool, ◌&&◌, ℕ, ◌^◌, leb, ltb}
use Rattle.field.specs.Words.{narrowest, widest}

-- 1, 01's "width"
unfoldable pub is_width : ℕ → Bool
is_width m = leb narrowest m && leb m widest

-- 3, 01's "stranger"
unfoldable pub is_element : ℕ → ℕ → Bool
is_element m a = ltb a (2 ^ m)
