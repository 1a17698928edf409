-- The outcome of a call whose result stands in lent buffers: done, or refused by a number of 01's table.
use Rattle.std.specs.Prelude.{ℕ, Result, Ok, Err}
use Rattle.refusals.specs.Rules.{unless_refused}

abbrev pub Outcome : Type 0
Outcome = Result (Unit {0}) ℕ

abbrev pub Done : Outcome
Done = Ok tt

abbrev pub Refused : ℕ → Outcome
Refused k = Err k

-- the outcome of a test that found this number, 0 being none
abbrev pub tested : ℕ → Outcome
tested k = unless_refused k Refused Done
