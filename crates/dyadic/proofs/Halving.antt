-- A block as two halves of length h, and what becomes of them where one is lent and written to, or the high one is added to the low one.
use mathlib.Core.Path.{◌≡◌, sym, ap, ap₂, ◌∙◌, subst}
use mathlib.Core.List.{List, ◌++◌, append-nil}
use Prim.Native.Nat.{ℕ, ◌+◌, ◌-◌, ◌^◌, ◌<◌, ◌≤◌}
use native.Mathlib.Omega.{arith}
use lib.ListN.{length, take, drop, length-append, length-drop, take-append-drop, drop_of_length-le}
use lib.Seq.{take_all, take_at, drop_at, length-take-le, get_or-take, get_or-drop}
use Rattle.field.specs.Gf.{Width, gf}
use Rattle.slices.specs.Elements.{Elements}
use Rattle.dyadic.specs.Block.{block_sum}
use Rattle.dyadic.specs.BlockElements.{sum_elements}
use Rattle.dyadic.specs.Entries.{length_sum}
use Rattle.dyadic.specs.Folded.{folded}

abbrev pub low : ℕ → List ℕ → List ℕ
low h x = take h x

-- the high half of a block of s elements
abbrev pub high : ℕ → ℕ → List ℕ → List ℕ
high h s x = take (s - h) (drop h x)

pub record Parts (h : ℕ) (lower upper x : List ℕ) : Type 0 where
  pub joined : x ≡ lower ++ upper
  pub size_lower : length lower ≡ h
  pub size_upper : length upper ≡ h

pub parts_start : (h : ℕ) (x : List ℕ) → length x ≡ h + h → Parts h (low h x) (drop h x) x
parts_start h x lx =
    record {
      joined = sym (take-append-drop h x);
      size_lower = length-take-le h x (omega arith);
      size_upper = length-drop h x ∙ omega arith;
    }

module _ {h : ℕ} {lower upper x : List ℕ} (p : Parts h lower upper x) where
  pub parts_low : low h x ≡ lower
  parts_low = ap (take h) p.joined ∙ take_at lower upper h p.size_lower

  parts_drop : drop h x ≡ upper
  parts_drop = ap (drop h) p.joined ∙ drop_at lower upper h p.size_lower

  pub parts_length : length x ≡ h + h
  parts_length = ap length p.joined ∙ length-append lower upper ∙ ap₂ (λ (i j : ℕ). i + j) p.size_lower p.size_upper

  rest_long : {s : ℕ} → s ≡ h + h → length (drop h x) ≤ s - h
  rest_long e =
      let long : length (drop h x) ≡ h = ap length parts_drop ∙ p.size_upper in omega arith

  pub parts_high : {s : ℕ} → s ≡ h + h → high h s x ≡ upper
  parts_high {s} e = take_all (s - h) (drop h x) (rest_long e) ∙ parts_drop

  pub low_long : length (low h x) ≡ h
  low_long = ap length parts_low ∙ p.size_lower

  pub high_long : {s : ℕ} → s ≡ h + h → length (high h s x) ≡ h
  high_long e = ap length (parts_high e) ∙ p.size_upper

  pub low_inside : h ≤ length x
  low_inside = omega (arith, parts_length)

  -- the low half comes back as l
  pub put_low : {l v : List ℕ} → l ≡ v → length v ≡ h → Parts h v upper (l ++ drop h x)
  put_low e lv =
      record { joined = ap₂ (λ (u v : List ℕ). u ++ v) e parts_drop; size_lower = lv; size_upper = p.size_upper }

  -- the high half comes back as l
  pub put_high : {s : ℕ} → s ≡ h + h → {l v : List ℕ} → l ≡ v → length v ≡ h → Parts h lower v (low h x ++ (l ++ drop (s - h) (drop h x)))
  put_high e {l} ev lv =
      record {
        joined =
            ap₂ (λ (u v : List ℕ). u ++ v) parts_low
            (ap (λ (u : List ℕ). l ++ u) (drop_of_length-le (drop h x) (rest_long e)) ∙ append-nil l ∙ ev);
        size_lower = p.size_lower;
        size_upper = lv;
      }

  pub put_folded : (m : ℕ) {y : List ℕ} → y ≡ folded (gf m) h x → Parts h (block_sum (gf m) lower upper) upper y
  unfolding folded
  put_folded m e =
      record {
        joined = e ∙ ap₂ (λ (u v : List ℕ). block_sum (gf m) u v ++ v) parts_low parts_drop;
        size_lower = length_sum (gf m) lower upper ∙ p.size_lower;
        size_upper = p.size_upper;
      }

-- ---- a factor: both halves are of elements of the field

pub record Factor (m h : ℕ) (lower upper x : List ℕ) : Type 0 where
  pub parts : Parts h lower upper x
  pub in_lower : Elements m lower
  pub in_upper : Elements m upper

pub factor_start : (m h : ℕ) (x : List ℕ) → length x ≡ h + h → Elements m x → Factor m h (low h x) (drop h x) x
factor_start m h x lx ex =
    record {
      parts = p;
      in_lower =
          λ i l. subst (λ (y : ℕ). y < 2 ^ m) (sym (get_or-take h x i 0 (omega (arith, p.size_lower)))) (ex i (omega (arith, p.size_lower)));
      in_upper = λ i l. subst (λ (y : ℕ). y < 2 ^ m) (sym (get_or-drop h x i 0)) (ex (h + i) (omega (arith, p.size_upper)));
    }
  where
    p : Parts h (low h x) (drop h x) x
    p = parts_start h x lx

module _ {m h : ℕ} {lower upper x : List ℕ} (f : Factor m h lower upper x) where
  -- a half that was lent comes back as it was
  pub low_kept : {l : List ℕ} → l ≡ low h x → Factor m h lower upper (l ++ drop h x)
  low_kept e =
      record {
        parts = put_low f.parts (e ∙ parts_low f.parts) f.parts.size_lower;
        in_lower = f.in_lower;
        in_upper = f.in_upper;
      }

  pub high_kept : {s : ℕ} → s ≡ h + h → {l : List ℕ} → l ≡ high h s x → Factor m h lower upper (low h x ++ (l ++ drop (s - h) (drop h x)))
  high_kept es e =
      record {
        parts = put_high f.parts es (e ∙ parts_high f.parts es) f.parts.size_upper;
        in_lower = f.in_lower;
        in_upper = f.in_upper;
      }

  pub factor_folded : Width m → {y : List ℕ} → y ≡ folded (gf m) h x → Factor m h (block_sum (gf m) lower upper) upper y
  factor_folded W e =
      record {
        parts = put_folded f.parts m e;
        in_lower = sum_elements m W lower upper (f.parts.size_upper ∙ sym f.parts.size_lower) f.in_lower f.in_upper;
        in_upper = f.in_upper;
      }
