-- What is known of blocks that have passed the tests of the call.
use Rattle.std.specs.Prelude.{◌≡◌, Bool, true, false, not, ◌&&◌, ◌||◌, List, ℕ, ◌≤◌, eqb, length}
use Rattle.std.proofs.Common.{sym, subst, pow_mono, eqb-true}
use Rattle.std.proofs.lemmas.Bool.{false≢true}
use Rattle.algebra.specs.Flags.{both_true}
use Rattle.refusals.specs.RuleLaws.{hold}
use Rattle.field.specs.RangeLaws.{width_is}
use Rattle.slices.specs.Lengths.{longest}
use Rattle.slices.specs.LengthLaws.{power_is}
use Rattle.slices.specs.Elements.{all_elements}
use Rattle.slices.specs.ElementLaws.{elements_are}
use Rattle.formula.specs.Letters.{Letter, A, B, C, D, Lent, block_of, is_lent}
use Rattle.formula.specs.Answers.{fits_buffer, every, lent_rules, lent_fault}
use Rattle.formula.specs.Callers.{Ready}

every_is : (test : List ℕ → Bool) (β : Lent) → every test β ≡ true → (l : Letter) → test (block_of β l) ≡ true
unfolding every block_of
every_is test β t l =
    let (abc, d) = both_true (test β.a && test β.b && test β.c) (test β.d) t in
    let (ab, c) = both_true (test β.a && test β.b) (test β.c) abc in
    let (a, b) = both_true (test β.a) (test β.b) ab in at a b c d l
  where
    at : test β.a ≡ true → test β.b ≡ true → test β.c ≡ true → test β.d ≡ true → (l : Letter) → test (block_of β l) ≡ true
    at a b c d A = a
    at a b c d B = b
    at a b c d C = c
    at a b c d D = d

fits_is : (n : ℕ) (β : Lent) (l : Letter) → fits_buffer n (block_of β l) ≡ true → is_lent β l ≡ true → length (block_of β l) ≡ n
unfolding fits_buffer is_lent
fits_is n β l t lent = eqb-true (length (block_of β l)) n (second (eqb (length (block_of β l)) 0) (eqb (length (block_of β l)) n) t lent)
  where
    second : (x y : Bool) → (x || y) ≡ true → not x ≡ true → y ≡ true
    second true y t u = absurd (false≢true u)
    second false y t u = t

pub ready : (m : ℕ) (β : Lent) (n : ℕ) → lent_fault m β n ≡ 0 → Ready m β n
unfolding lent_fault lent_rules
ready m β n z =
    let h = hold (lent_rules m β n) tt z in
    let (log, short, power) = power_is n h.1.0 in
    record {
      width = width_is m h.0;
      log = log;
      power = power;
      room = subst (λ (k : ℕ). k ≤ longest) (sym power) (pow_mono short);
      sized = λ l. fits_is n β l (every_is (fits_buffer n) β h.1.1.0 l);
      elements = λ l. (elements_are m (block_of β l)).0 (every_is (all_elements m) β h.1.1.1.0 l);
    }
