-- The field of two elements. Of a factor only the lowest bit counts, so that the ring's laws hold for all numbers.
use Rattle.std.specs.Prelude.{ℕ, ◌*◌, ◌%◌, ◌<◌}
use Rattle.algebra.specs.Field.{Ops}
use Rattle.algebra.specs.Xor.{◌⊕◌}

abbrev pub gf2 : Ops ℕ
gf2 = record { In = λ a. a < 2; nought = 0; one = 1; add = ◌⊕◌; mul = λ a b. (a % 2) * (b % 2); inv = λ a. a % 2 }
