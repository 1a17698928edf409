-- 1 to 3 refuse nothing exactly if the sizes are those of a signature and its essence, and what that gives the laws of essences.
use Rattle.std.specs.Prelude.{◌≡◌, ◌↔◌, true, List, ℕ, suc, ◌-◌, ◌^◌, ◌≤◌, leb, length}
use Rattle.std.proofs.Common.{ap, sym, ◌∙◌, subst, arith, leb-true, le-leb, eqb-true, eq-eqb}
use Rattle.algebra.specs.Flags.{both_true, both_hold}
use Rattle.algebra.specs.Lists.{entry_of}
use Rattle.refusals.specs.Rules.{Hold}
use Rattle.field.specs.Gf.{gf}
use Rattle.field.specs.RangeLaws.{width, width_is}
use Rattle.slices.specs.ElementLaws.{elements_are}
use Rattle.slices.specs.Lengths.{longest_log}
use Rattle.signature.specs.Signature.{Conditions}
use Rattle.essence.specs.Answers.{is_value_count, shape_rules}
use Rattle.essence.proofs.ChosenLaws.{Values}
use Rattle.essence.proofs.EssenceLaws.{Signature}
use Rattle.essence.specs.Shape.{Shape}

pub value_count_is : (k : ℕ) → is_value_count k ≡ true → (2 ≤ k) × (k ≤ suc longest_log)
unfolding is_value_count
value_count_is k t =
    let (low, high) = both_true (leb 2 k) (leb k (suc longest_log)) t in (leb-true 2 k low, leb-true k (suc longest_log) high)

pub value_count : (k : ℕ) → 2 ≤ k → k ≤ suc longest_log → is_value_count k ≡ true
unfolding is_value_count
value_count k low high = both_hold (le-leb 2 k low) (le-leb k (suc longest_log) high)

pub shape_is : (m : ℕ) (a : List ℕ) (n k : ℕ) → Hold (shape_rules m a n k) ↔ Shape m a n k
unfolding shape_rules
shape_is m a n k = (
  λ held.
      let (is_width_here, (count, (size, (elements, tt)))) = held in
      let (low, high) = value_count_is k count in
      record {
        width = width_is m is_width_here;
        e = k - 1;
        low = omega arith;
        high = omega arith;
        entries = eqb-true n (2 ^ (k - 1)) size;
        values = omega arith;
        elements = (elements_are m a).0 elements;
      },
  λ S.
      let one_less : k - 1 ≡ S.e = omega (arith, S.values) in (
        width m S.width.low S.width.high,
        (
          value_count k (omega (arith, S.values, S.low)) (omega (arith, S.values, S.high)),
          (eq-eqb n (2 ^ (k - 1)) (S.entries ∙ ap (λ (e : ℕ). 2 ^ e) (sym one_less)), ((elements_are m a).1 S.elements, tt)),
        ),
      ),
)

-- where the essence is given
pub shape_values : {m n : ℕ} {v : List ℕ} (S : Shape m v n (length v)) → Values m S.e v
shape_values S = record { width = S.width; long = S.values; elements = S.elements }

-- where the signature is given, and 01's conditions hold of it
pub shape_signature : {m k : ℕ} {h : List ℕ} (S : Shape m h (length h) k) → Conditions (gf m) (length h) (entry_of h) → Signature m S.e h
shape_signature {m} {k} {h} S C =
    record {
      width = S.width;
      long = S.entries;
      elements = S.elements;
      conditions = subst (λ (n : ℕ). Conditions (gf m) n (entry_of h)) S.entries C;
    }
