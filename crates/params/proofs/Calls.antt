-- A call on a code: the code's rules come first, then those of the call's own.
use Rattle.std.specs.Prelude.{◌≡◌, Bool, true, List, ◌++◌, ℕ}
use Rattle.refusals.specs.Rules.{Rule, fault}
use Rattle.refusals.specs.RuleLaws.{fault_rest}
use Rattle.params.specs.declared.Parameters.{Parameters}
use Rattle.params.proofs.Accepted.{code_numbered, accepts}
use Rattle.params.specs.Code.{Accepted, code_rules}

-- an accepted code, with buffers of their lengths, leaves a call to its own rules
pub code_leaves : {c : Parameters} {h : List ℕ} → Accepted c h → {buffers : Bool} → buffers ≡ true → (more : List Rule)
    → fault (code_rules buffers c h ++ more) ≡ fault more
code_leaves {c} {h} A {buffers} lent more = fault_rest (code_rules buffers c h) more (code_numbered buffers c h) (accepts buffers c h lent A)
