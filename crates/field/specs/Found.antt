-- What a call on elements answers: the element, or the number that refuses it.
use Rattle.std.specs.Prelude.{ℕ, Result, Ok, Err}

abbrev pub Answer : Type 0
Answer = Result ℕ ℕ

abbrev pub Element : ℕ → Answer
Element a = Ok a

abbrev pub Refused : ℕ → Answer
Refused k = Err k
