-- What a comparison of two codes answers: whether they are the same, or the number that refuses one of them.
use Rattle.std.specs.Prelude.{ℕ, Bool, true, false, Result, Ok, Err}

abbrev pub Sameness : Type 0
Sameness = Result Bool ℕ

abbrev pub Same : Sameness
Same = Ok true

abbrev pub Different : Sameness
Different = Ok false

abbrev pub Refused : ℕ → Sameness
Refused k = Err k
