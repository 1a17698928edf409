-- What calls on words share: a message that is refused.
use Rattle.std.specs.Prelude.{◌≡◌, Bool, List, ℕ}
use Rattle.std.specs.Result.{IsErrAnd}
use Rattle.std.proofs.Common.{sym, subst}
use Rattle.refusals.specs.Ending.{Ended, ended_refused}
use Rattle.refusals.specs.Outcome.{Outcome, Refused, tested}
use Rattle.refusals.specs.Rules.{fault}
use Rattle.refusals.specs.Testing.{tested_due, handed_on}
use Rattle.params.specs.declared.Parameters.{Parameters}
use Rattle.parity.specs.Columns.{dimension}
use Rattle.messages.specs.CodeBasis.{MessageColumns}
use Rattle.messages.specs.MessageRules.{message_rules}
use Rattle.messages.proofs.Meaning.{message_due}

-- a call whose message is refused ends by the number that is due for the dimension, with its buffer as it was
pub message_refused : {c : Parameters} {h cols leads : List ℕ} {k : ℕ} → MessageColumns c h cols leads k → {i : ℕ} (long : ℕ) (bits : Bool)
    (old value : List ℕ) (r : Outcome) → Refused i ≡ tested (fault (message_rules k long bits)) → IsErrAnd r (λ y. y ≡ i)
    → Ended r (message_rules (dimension c h cols) long bits) old value old
message_refused {c} {h} {cols} M long bits old value r is e =
    let (ne, due) = tested_due is in
    subst (λ (x : Outcome). Ended x (message_rules (dimension c h cols) long bits) old value old) (sym (handed_on r e))
    (ended_refused (message_rules (dimension c h cols) long bits) old value (message_due M long bits due) ne)
