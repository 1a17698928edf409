-- What a step sends is the row's word with the marked bits turned.
use mathlib.Core.Path.{◌≡◌, ap₂, ◌∙◌}
use mathlib.Core.List.{List}
use Prim.Native.Nat.{ℕ}
use lib.ListN.{length}
use Rattle.params.specs.declared.Parameters.{Parameters}
use Rattle.messages.specs.CodeBasis.{CodeBasis}
use Rattle.nearest.specs.Turned.{turned}
use Rattle.gears.specs.Rows.{row_message}
use Rattle.rows.proofs.Ending.{row_carried}
use Rattle.simulation.specs.Ride.{is_marked, step_word}
use Rattle.simulation.specs.Parts.{Sent}

pub sent_is : {c : Parameters} {h cols rows leads : List ℕ} {k : ℕ} → CodeBasis c h cols rows leads k → (gear lamp : ℕ) {long n : ℕ}
    {marks new : List ℕ} → long ≡ k → n ≡ length cols → Sent n rows leads (row_message long gear lamp) marks new
    → new ≡ step_word c h cols gear lamp marks
unfolding step_word
sent_is B gear lamp {marks = marks} fits n_is S =
    S.turned_is ∙ ap₂ (λ (i : ℕ) (w : List ℕ). turned i (is_marked marks) w) n_is (row_carried B gear lamp fits n_is S.long S.carried)
