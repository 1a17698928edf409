-- A call with two lists of rules: what its first part refuses is refused, and what it lets pass is left to the second part.
use Rattle.std.specs.Prelude.{◌≡◌, ◌≢◌, List, ◌++◌, ℕ, T}
use Rattle.std.proofs.Common.{sym, ap, ◌∙◌}
use Rattle.refusals.specs.Rules.{Rule, fault, unless_refused, numbered}
use Rattle.refusals.specs.Outcome.{Outcome, Done, Refused, tested}
use Rattle.refusals.specs.RuleLaws.{fault_first, fault_rest, refuse, accept}

-- Both laws hold of the answer and of each buffer: `refused` is what a refusal makes of it, and `value` what it is otherwise.
module _ {A : Type 0} (rules more : List Rule) (refused : ℕ → A) (value : A) where
  -- the first part found k
  pub first_refuses : {k : ℕ} → k ≡ fault rules → k ≢ 0 → refused k ≡ unless_refused (fault (rules ++ more)) refused value
  first_refuses e ne = refuse refused value (e ∙ sym (fault_first rules more (λ z. ne (e ∙ z)))) ne

  -- the first part found nothing, and the second ended as its rules say
  pub second_decides : T (numbered rules) → fault rules ≡ 0 → {x : A} → x ≡ unless_refused (fault more) refused value
      → x ≡ unless_refused (fault (rules ++ more)) refused value
  second_decides s z e = e ∙ ap (λ (k : ℕ). unless_refused k refused value) (sym (fault_rest rules more s z))

-- ---- a part of a call that tests, and writes its buffer if nothing is due

pub record Ended (found : Outcome) (rules : List Rule) (old value new : List ℕ) : Type 0 where
  pub outcome : found ≡ tested (fault rules)
  pub buffer : new ≡ unless_refused (fault rules) (λ k. old) value

pub ended_refused : {k : ℕ} (rules : List Rule) (old value : List ℕ) → k ≡ fault rules → k ≢ 0 → Ended (Refused k) rules old value old
ended_refused rules old value e ne = record { outcome = refuse Refused Done e ne; buffer = refuse (λ k. old) value e ne }

pub ended_done : {k : ℕ} (rules : List Rule) (old value : List ℕ) {new : List ℕ} → k ≡ fault rules → k ≡ 0 → new ≡ value → Ended Done rules old value new
ended_done rules old value e z w = record { outcome = accept Refused Done e z; buffer = w ∙ accept (λ k. old) value e z }
