-- What the tests of widths and elements say.
use Rattle.std.specs.Prelude.{◌≡◌, Bool, true, false, ◌&&◌, ℕ, ◌^◌, ◌≤◌, ◌<◌, leb}
use Rattle.std.proofs.Common.{ap, ap₂, ◌∙◌, le-leb, leb-true, le-ltb, lt-ltb, ltb-true}
use Rattle.std.proofs.Math.Bool.{and-false}
use Rattle.std.proofs.lemmas.Bool.{lt-leb}
use Rattle.algebra.specs.Flags.{both_true}
use Rattle.field.specs.Gf.{Width}
use Rattle.field.specs.Words.{narrowest, widest}
use Rattle.field.specs.Range.{is_width, is_element}

pub narrow : (m : ℕ) → m < narrowest → is_width m ≡ false
unfolding is_width
narrow m h = ap (λ (t : Bool). t && leb m widest) (lt-leb narrowest m h)

pub wide : (m : ℕ) → widest < m → is_width m ≡ false
unfolding is_width
wide m h = ap (λ (t : Bool). leb narrowest m && t) (lt-leb m widest h) ∙ and-false (leb narrowest m)

pub width : (m : ℕ) → narrowest ≤ m → m ≤ widest → is_width m ≡ true
unfolding is_width
width m l h = ap₂ (λ (s t : Bool). s && t) (le-leb narrowest m l) (le-leb m widest h)

pub width_is : (m : ℕ) → is_width m ≡ true → Width m
unfolding is_width
width_is m e = record { low = leb-true narrowest m both.0; high = leb-true m widest both.1 }
  where
    both : (leb narrowest m ≡ true) × (leb m widest ≡ true)
    both = both_true (leb narrowest m) (leb m widest) e

pub stranger : (m a : ℕ) → 2 ^ m ≤ a → is_element m a ≡ false
unfolding is_element
stranger m a h = le-ltb a (2 ^ m) h

pub element : (m a : ℕ) → a < 2 ^ m → is_element m a ≡ true
unfolding is_element
element m a h = lt-ltb a (2 ^ m) h

pub element_is : (m a : ℕ) → is_element m a ≡ true → a < 2 ^ m
unfolding is_element
element_is m a e = ltb-true a (2 ^ m) e
