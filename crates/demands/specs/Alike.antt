-- What it means that no call on words, no ride and no dash with several senders tells two codes apart, each at a setting.
use Rattle.std.specs.Prelude.{◌≡◌, List, ℕ}
use Rattle.params.specs.declared.Parameters.{Parameters}
use Rattle.shortened.specs.Setting.{Setting}
use Rattle.words.specs.Answers.{roles_answer, roles_after, syndrome_answer, syndrome_after, encode_answer, encode_after, message_answer, message_after}
use Rattle.repair.specs.Answers.{repair_answer, repair_after}
use Rattle.rows.specs.Answers.{write_answer, write_after, read_answer, read_after}
use Rattle.simulation.specs.Steps.{Steps}
use Rattle.simulation.specs.Answers.{ride_answer, ride_after}
use Rattle.scheduler.specs.declared.Dash.{Dash}
use Rattle.scheduler.specs.State.{State}
use Rattle.scheduler.specs.Answers.{start_answer, start_waiting, start_next, offer_answer, offer_waiting, offer_words}
use Rattle.scheduler.specs.Answers.{round_answer, waiting_after, next_after, answers_after, handed_after}

-- Each call answers alike, and leaves the same in the lent buffer, whatever it is told and lent, refused or not.
pub record Alike (c₁ : Parameters) (h₁ : List ℕ) (s₁ : Setting) (c₂ : Parameters) (h₂ : List ℕ) (s₂ : Setting) : Type 0 where
  pub roles : (out : List ℕ) → (roles_answer c₁ h₁ s₁ out ≡ roles_answer c₂ h₂ s₂ out) × (roles_after c₁ h₁ s₁ out ≡ roles_after c₂ h₂ s₂ out)
  pub syndrome : (word out : List ℕ) → (syndrome_answer c₁ h₁ s₁ word out ≡ syndrome_answer c₂ h₂ s₂ word out)
      × (syndrome_after c₁ h₁ s₁ word out ≡ syndrome_after c₂ h₂ s₂ word out)
  pub encode : (message word : List ℕ) → (encode_answer c₁ h₁ s₁ message word ≡ encode_answer c₂ h₂ s₂ message word)
      × (encode_after c₁ h₁ s₁ message word ≡ encode_after c₂ h₂ s₂ message word)
  pub message : (word out : List ℕ) → (message_answer c₁ h₁ s₁ word out ≡ message_answer c₂ h₂ s₂ word out)
      × (message_after c₁ h₁ s₁ word out ≡ message_after c₂ h₂ s₂ word out)
  pub repair : (received repaired : List ℕ) → (repair_answer c₁ h₁ s₁ received repaired ≡ repair_answer c₂ h₂ s₂ received repaired)
      × (repair_after c₁ h₁ s₁ received repaired ≡ repair_after c₂ h₂ s₂ received repaired)
  pub write_row : (gear lamp : ℕ) (word : List ℕ) → (write_answer c₁ h₁ s₁ gear lamp word ≡ write_answer c₂ h₂ s₂ gear lamp word)
      × (write_after c₁ h₁ s₁ gear lamp word ≡ write_after c₂ h₂ s₂ gear lamp word)
  pub read_row : (received repaired : List ℕ) → (read_answer c₁ h₁ s₁ received repaired ≡ read_answer c₂ h₂ s₂ received repaired)
      × (read_after c₁ h₁ s₁ received repaired ≡ read_after c₂ h₂ s₂ received repaired)
  pub ride : (σ : Steps) (counts : List ℕ) → (ride_answer c₁ h₁ s₁ σ counts ≡ ride_answer c₂ h₂ s₂ σ counts)
      × (ride_after c₁ h₁ s₁ σ counts ≡ ride_after c₂ h₂ s₂ σ counts)
  pub start : (d : Dash) (waiting next : List ℕ) → (start_answer c₁ h₁ s₁ d waiting next ≡ start_answer c₂ h₂ s₂ d waiting next)
      × (start_waiting c₁ h₁ s₁ d waiting next ≡ start_waiting c₂ h₂ s₂ d waiting next)
      × (start_next c₁ h₁ s₁ d waiting next ≡ start_next c₂ h₂ s₂ d waiting next)
  pub offer : (d : Dash) (sender : ℕ) (word waiting words : List ℕ)
      → (offer_answer c₁ h₁ s₁ d sender word waiting words ≡ offer_answer c₂ h₂ s₂ d sender word waiting words)
      × (offer_waiting c₁ h₁ s₁ d sender word waiting words ≡ offer_waiting c₂ h₂ s₂ d sender word waiting words)
      × (offer_words c₁ h₁ s₁ d sender word waiting words ≡ offer_words c₂ h₂ s₂ d sender word waiting words)
  pub round : (d : Dash) (σ : State) (answers handed : List ℕ)
      → (round_answer c₁ h₁ s₁ d σ answers handed ≡ round_answer c₂ h₂ s₂ d σ answers handed)
      × (waiting_after c₁ h₁ s₁ d σ answers handed ≡ waiting_after c₂ h₂ s₂ d σ answers handed)
      × (next_after c₁ h₁ s₁ d σ answers handed ≡ next_after c₂ h₂ s₂ d σ answers handed)
      × (answers_after c₁ h₁ s₁ d σ answers handed ≡ answers_after c₂ h₂ s₂ d σ answers handed)
      × (handed_after c₁ h₁ s₁ d σ answers handed ≡ handed_after c₂ h₂ s₂ d σ answers handed)
