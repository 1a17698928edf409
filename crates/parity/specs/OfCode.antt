-- What is said of a code on a list of its columns, of the code that a call is handed: a value, or a fact.
use Rattle.std.specs.Prelude.{List, ℕ}
use Rattle.params.specs.declared.Parameters.{Parameters}
use Rattle.parity.specs.declared.Code.{Code}

abbrev pub of_code : {A : Type 0} → (Parameters → List ℕ → List ℕ → A) → Code → A
of_code f code = f code.c code.h.now code.cols.now

abbrev pub OfCode : {A : Type 1} → (Parameters → List ℕ → List ℕ → A) → Code → A
OfCode P code = P code.c code.h.now code.cols.now
