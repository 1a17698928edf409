-- The stages of a product that goes by halves, over plain lists: which halves the factors and the buffer have after each step of the function, what a
-- call on halves asks, that the last stage is the product of the whole, and the count.
use mathlib.Core.Path.{◌≡◌, refl, sym, ap, ap₂, ◌∙◌, subst}
use mathlib.Core.List.{List, ◌++◌}
use Prim.Native.Nat.{ℕ, zero, suc, ◌+◌ as ◌+ℕ◌, ◌-◌, ◌*◌, ◌/◌, ◌^◌, ◌<◌, ◌≤◌}
use native.Mathlib.Nat.{two-pow-succ}
use native.Mathlib.Omega.{arith}
use lib.Pow.{pow_pos}
use lib.ListN.{length, drop}
use Rattle.algebra.specs.Field.{Laws}
use Rattle.field.specs.Gf.{Width, gf}
use Rattle.field.proofs.GfLaws.{gf_laws}
use Rattle.slices.specs.Lengths.{longest_log, longest}
use Rattle.slices.specs.Elements.{Elements}
use Rattle.dyadic.specs.Block.{block_sum, block_product}
use Rattle.dyadic.specs.Entries.{length_sum, length_product}
use Rattle.dyadic.specs.Sums.{sum_append, sum_assoc, sum_cancel, sum_through}
use Rattle.dyadic.proofs.Laws.{product_three_halves}
use Rattle.dyadic.specs.Callers.{Factors}
use Rattle.dyadic.specs.Folded.{folded}
use Rattle.dyadic.specs.Count.{Counted}
use Rattle.dyadic.specs.CountLaws.{counted_halves, counted_bound}
use Rattle.dyadic.proofs.Halving.{low, high, Parts, parts_start, parts_low, parts_high, parts_length, low_long, high_long, put_high, put_folded}
use Rattle.dyadic.proofs.Halving.{Factor, factor_start, low_kept, high_kept, factor_folded}

-- a width, and blocks of s elements that go by halves of h
pub record Halves (m h s : ℕ) : Type 0 where
  pub width : Width m
  pub log : ℕ
  pub half : h ≡ 2 ^ log
  pub twice : s ≡ h +ℕ h
  pub short : h ≤ longest

module _ {m h s : ℕ} (k : Halves m h s) where
  pub half_inside : h ≤ s
  half_inside = omega (arith, k.twice)

  -- where a block of s elements ends
  pub end_inside : {lower upper x : List ℕ} → Parts h lower upper x → s ≤ length x
  end_inside p = omega (arith, k.twice, parts_length p)

-- the halves of the factors a and b and of the buffer
pub record Stage (m h : ℕ) (A B C D L H a b out : List ℕ) : Type 0 where
  pub of_a : Factor m h A B a
  pub of_b : Factor m h C D b
  pub of_out : Parts h L H out

-- ---- the stages by name: what has become of the halves of the factors a and b and of the buffer out, when these are the lists x, y and z

module _ (m : ℕ) (a b out : List ℕ) where
  infixl 65 ◌+◌
  infixl 70 ◌·◌
  abbrev ◌+◌ : List ℕ → List ℕ → List ℕ
  x + y = block_sum (gf m) x y

  abbrev ◌·◌ : List ℕ → List ℕ → List ℕ
  x · y = block_product (gf m) x y

  abbrev h : ℕ
  h = length a / 2

  abbrev A : List ℕ
  A = low h a

  abbrev B : List ℕ
  B = drop h a

  abbrev C : List ℕ
  C = low h b

  abbrev D : List ℕ
  D = drop h b

  abbrev L : List ℕ
  L = low h out

  abbrev H : List ℕ
  H = drop h out

  abbrev pub Start : List ℕ → List ℕ → List ℕ → Type 0
  Start x y z = Stage m h A B C D L H x y z

  abbrev pub Opened : List ℕ → List ℕ → List ℕ → Type 0
  Opened x y z = Stage m h A B C D (L + H) H x y z

  abbrev pub FirstAdded : List ℕ → List ℕ → List ℕ → Type 0
  FirstAdded x y z = Stage m h A B C D (L + H) (H + A · C) x y z

  abbrev pub SecondAdded : List ℕ → List ℕ → List ℕ → Type 0
  SecondAdded x y z = Stage m h A B C D (L + H) (H + A · C + B · D) x y z

  abbrev pub Closed : List ℕ → List ℕ → List ℕ → Type 0
  Closed x y z = Stage m h A B C D (L + H + (H + A · C + B · D)) (H + A · C + B · D) x y z

  abbrev pub Summed : List ℕ → List ℕ → List ℕ → Type 0
  Summed x y z = Stage m h (A + B) B (C + D) D (L + H + (H + A · C + B · D)) (H + A · C + B · D) x y z

  abbrev pub ThirdAdded : List ℕ → List ℕ → List ℕ → Type 0
  ThirdAdded x y z = Stage m h (A + B) B (C + D) D (L + H + (H + A · C + B · D)) (H + A · C + B · D + (A + B) · (C + D)) x y z

  abbrev pub Last : List ℕ → List ℕ → List ℕ → Type 0
  Last x y z = Stage m h (A + B + B) B (C + D + D) D (L + H + (H + A · C + B · D)) (H + A · C + B · D + (A + B) · (C + D)) x y z

  -- ---- the last stage is the product of the whole, and the factors as they were

  -- The low half had the high one added before and after the first two products, so that it gains these; the high half has gained all three.
  module _ (k : Halves m h (length a)) (S : Start a b out) {x y z : List ℕ} (Z : Last x y z) where
    F : Laws (gf m)
    F = gf_laws m k.width

    -- the first two products
    abbrev two : List ℕ
    two = A · C + B · D

    long_first : length (A · C) ≡ h
    long_first = length_product (gf m) A C ∙ S.of_a.parts.size_lower

    long_two : length two ≡ h
    long_two = length_sum (gf m) (A · C) (B · D) ∙ long_first

    gathered : H + A · C + B · D ≡ H + two
    gathered = sum_assoc (gf m) F H (A · C) (B · D) (long_first ∙ sym S.of_out.size_upper)

    pub product_made : z ≡ out + a · b
    product_made =
        Z.of_out.joined
        ∙ ap₂ (λ (u v : List ℕ). u ++ v)
        (ap (λ (u : List ℕ). L + H + u) gathered ∙ sum_through (gf m) F L H two (S.of_out.size_upper ∙ sym S.of_out.size_lower))
        (ap (λ (u : List ℕ). u + (A + B) · (C + D)) gathered
        ∙ sum_assoc (gf m) F H two ((A + B) · (C + D)) (long_two ∙ sym S.of_out.size_upper))
        ∙ sym (sum_append (gf m) h L H two (two + (A + B) · (C + D)) S.of_out.size_lower long_two)
        ∙ ap₂ (λ (u v : List ℕ). u + v) (sym S.of_out.joined)
        (sym
        (product_three_halves (gf m) F k.log A B C D (S.of_a.parts.size_lower ∙ k.half) (S.of_a.parts.size_upper ∙ k.half)
        (S.of_b.parts.size_lower ∙ k.half) (S.of_b.parts.size_upper ∙ k.half))
        ∙ ap₂ (λ (u v : List ℕ). u · v) (sym S.of_a.parts.joined) (sym S.of_b.parts.joined))

    -- a sum of halves that was made and undone
    undone : {lower upper u v : List ℕ} → Parts h lower upper u → Parts h (lower + upper + upper) upper v → v ≡ u
    undone {lower} {upper} p q =
        q.joined ∙ ap (λ (l : List ℕ). l ++ upper) (sum_cancel (gf m) F lower upper (p.size_upper ∙ sym p.size_lower)) ∙ sym p.joined

    pub factors_back : (x ≡ a) × (y ≡ b)
    factors_back = (undone S.of_a.parts Z.of_a.parts, undone S.of_b.parts Z.of_b.parts)

-- ---- how it starts

pub halves : {m : ℕ} {a b out : List ℕ} → Factors m a b out → (length a ≡ 1 → ⊥) → Halves m (length a / 2) (length a)
halves {m} {a} f ne = at f.log refl
  where
    built : (e : ℕ) → length a ≡ 2 ^ e +ℕ 2 ^ e → Halves m (length a / 2) (length a)
    built e l =
        let short : length a ≤ longest = f.short in
        record { width = f.width; log = e; half = omega arith; twice = omega arith; short = omega arith }

    at : (k : ℕ) → f.log ≡ k → Halves m (length a / 2) (length a)
    at zero l = absurd (ne (f.length_a ∙ ap (λ (k : ℕ). 2 ^ k) l))
    at (suc e) l = built e (f.length_a ∙ ap (λ (k : ℕ). 2 ^ k) l ∙ two-pow-succ e)

pub stage_start : {m h : ℕ} {a b out : List ℕ} → Factors m a b out → Halves m h (length a)
    → Stage m h (low h a) (drop h a) (low h b) (drop h b) (low h out) (drop h out) a b out
stage_start {m} {h} {a} {b} {out} f k =
    record {
      of_a = factor_start m h a k.twice f.elements_a;
      of_b = factor_start m h b (f.length_b ∙ sym f.length_a ∙ k.twice) f.elements_b;
      of_out = parts_start h out (f.length_out ∙ sym f.length_a ∙ k.twice);
    }

-- ---- the steps

-- what a call promises on the factors x and y into the buffer z: these become l, r and o, and n is its count
abbrev pub Made : ℕ → List ℕ → List ℕ → List ℕ → List ℕ → List ℕ → List ℕ → ℕ → Type 0
Made m x y z l r o n =
    record {
      out_after : o ≡ block_sum (gf m) z (block_product (gf m) x y);
      a_unchanged : (l ≡ x) × (r ≡ y);
      counted : Counted (length x) n;
    }

-- what folding promises of one list, and of both factors
abbrev pub Once : ℕ → List ℕ → List ℕ → Type 0
Once h x y = (m : ℕ) → y ≡ folded (gf m) h x

abbrev pub Doubled : ℕ → List ℕ → List ℕ → List ℕ → List ℕ → Type 0
Doubled h a b x y = record { by_index : Once h a x; by_index_2 : Once h b y }

-- the list x with its low half, or its high half, come back as l
abbrev pub low_back : ℕ → List ℕ → List ℕ → List ℕ
low_back h x l = l ++ drop h x

abbrev pub high_back : ℕ → ℕ → List ℕ → List ℕ → List ℕ
high_back h s x l = low h x ++ (l ++ drop (s - h) (drop h x))

module _ {m h s : ℕ} (k : Halves m h s) {A B C D L H a b out : List ℕ} (S : Stage m h A B C D L H a b out) where
  -- what a call on the halves X and Y is given, into the high half of the buffer
  called : {t : ℕ} → s ≡ t → {x y X Y : List ℕ} → x ≡ X → length X ≡ h → Elements m X → y ≡ Y → length Y ≡ h → Elements m Y
      → (length x < t) × Factors m x y (high h s out)
  called et {x} {y} ex lx inx ey ly iny = (
    omega (arith, et, size, k.twice, k.half, pow_pos k.log),
    record {
      width = k.width;
      log = k.log;
      length_a = size ∙ k.half;
      short = subst (λ (n : ℕ). n ≤ longest) (sym size) k.short;
      length_b = ap length ey ∙ ly ∙ k.half;
      length_out = ap length (parts_high S.of_out k.twice) ∙ S.of_out.size_upper ∙ k.half;
      elements_a = subst (Elements m) (sym ex) inx;
      elements_b = subst (Elements m) (sym ey) iny;
    },
  )
    where
      size : length x ≡ h
      size = ap length ex ∙ lx

  pub low_called : {t : ℕ} → s ≡ t → (length (low h a) < t) × Factors m (low h a) (low h b) (high h s out)
  low_called et =
      called et (parts_low S.of_a.parts) S.of_a.parts.size_lower S.of_a.in_lower (parts_low S.of_b.parts)
      S.of_b.parts.size_lower S.of_b.in_lower

  pub high_called : {t : ℕ} → s ≡ t → (length (high h s a) < t) × Factors m (high h s a) (high h s b) (high h s out)
  high_called et =
      called et (parts_high S.of_a.parts k.twice) S.of_a.parts.size_upper S.of_a.in_upper
      (parts_high S.of_b.parts k.twice) S.of_b.parts.size_upper S.of_b.in_upper

  -- the buffer after a call on the halves X and Y
  grown : {x y X Y o : List ℕ} → x ≡ X → y ≡ Y → o ≡ block_sum (gf m) (high h s out) (block_product (gf m) x y)
      → Parts h L (block_sum (gf m) H (block_product (gf m) X Y)) (high_back h s out o)
  grown {x} {y} {X} {Y} ex ey e =
      put_high S.of_out k.twice
      (e ∙ ap₂ (block_sum (gf m)) (parts_high S.of_out k.twice) (ap₂ (block_product (gf m)) ex ey))
      (length_sum (gf m) H (block_product (gf m) X Y) ∙ S.of_out.size_upper)

  -- after a call on the low halves, or on the high ones
  pub low_added : {l r o : List ℕ} {n : ℕ} → Made m (low h a) (low h b) (high h s out) l r o n
      → Stage m h A B C D L (block_sum (gf m) H (block_product (gf m) A C)) (low_back h a l) (low_back h b r) (high_back h s out o)
  low_added q =
      record {
        of_a = low_kept S.of_a q.a_unchanged.0;
        of_b = low_kept S.of_b q.a_unchanged.1;
        of_out = grown (parts_low S.of_a.parts) (parts_low S.of_b.parts) q.out_after;
      }

  pub high_added : {l r o : List ℕ} {n : ℕ} → Made m (high h s a) (high h s b) (high h s out) l r o n
      → Stage m h A B C D L (block_sum (gf m) H (block_product (gf m) B D)) (high_back h s a l) (high_back h s b r) (high_back h s out o)
  high_added q =
      record {
        of_a = high_kept S.of_a k.twice q.a_unchanged.0;
        of_b = high_kept S.of_b k.twice q.a_unchanged.1;
        of_out = grown (parts_high S.of_a.parts k.twice) (parts_high S.of_b.parts k.twice) q.out_after;
      }

  pub buffer_folded : {y : List ℕ} → Once h out y → Stage m h A B C D (block_sum (gf m) L H) H a b y
  buffer_folded e = record { of_a = S.of_a; of_b = S.of_b; of_out = put_folded S.of_out m (e m) }

  pub factors_folded : {x y : List ℕ} → Doubled h a b x y
      → Stage m h (block_sum (gf m) A B) B (block_sum (gf m) C D) D L H x y out
  factors_folded q =
      record {
        of_a = factor_folded S.of_a k.width (q.by_index m);
        of_b = factor_folded S.of_b k.width (q.by_index_2 m);
        of_out = S.of_out;
      }

-- ---- the count

pub counted_at : {h k n : ℕ} → k ≡ h → Counted k n → Counted h n
counted_at l c e q = c e (l ∙ q)

pub counted_fits : {m h s n : ℕ} → Halves m h s → Counted h n → n ≤ 3 ^ longest_log
counted_fits {m} {h} {s} {n} k = counted_bound h n k.log k.half k.short

pub counted_whole : {m h s x y z : ℕ} → Halves m h s → Counted h x → Counted h y → Counted h z → Counted s (x +ℕ y +ℕ z)
counted_whole {m} {h} {s} {x} {y} {z} k cx cy cz e q = counted_halves h x y z cx cy cz e (sym k.twice ∙ q)

-- ---- the run: each step's promise, in the order of the calls, and the stage after it

module _ {m : ℕ} {a b out : List ℕ} (f : Factors m a b out) (ne : length a ≡ 1 → ⊥) where
  abbrev s : ℕ
  s = length a

  abbrev half : ℕ
  half = s / 2

  pub shape : Halves m half s
  shape = halves f ne

  pub start : Start m a b out a b out
  start = stage_start f shape

  -- the high half of the buffer added to the low one
  module _ {out1 : List ℕ} (q1 : Once half out out1) where
    pub opened : Opened m a b out a b out1
    opened = buffer_folded shape start q1

    -- AC added
    module _ {l2 r2 o2 : List ℕ} {n2 : ℕ} (q2 : Made m (low half a) (low half b) (high half s out1) l2 r2 o2 n2) where
      abbrev a2 : List ℕ
      a2 = low_back half a l2

      abbrev b2 : List ℕ
      b2 = low_back half b r2

      abbrev out2 : List ℕ
      out2 = high_back half s out1 o2

      pub first_added : FirstAdded m a b out a2 b2 out2
      first_added = low_added shape opened q2

      first_count : Counted half n2
      first_count = counted_at (low_long opened.of_a.parts) q2.counted

      -- BD added
      module _ {l3 r3 o3 : List ℕ} {n3 : ℕ} (q3 : Made m (high half s a2) (high half s b2) (high half s out2) l3 r3 o3 n3) where
        abbrev a3 : List ℕ
        a3 = high_back half s a2 l3

        abbrev b3 : List ℕ
        b3 = high_back half s b2 r3

        abbrev out3 : List ℕ
        out3 = high_back half s out2 o3

        pub second_added : SecondAdded m a b out a3 b3 out3
        second_added = high_added shape first_added q3

        second_count : Counted half n3
        second_count = counted_at (high_long first_added.of_a.parts shape.twice) q3.counted

        -- the high half added once more
        module _ {out4 : List ℕ} (q4 : Once half out3 out4) where
          pub closed : Closed m a b out a3 b3 out4
          closed = buffer_folded shape second_added q4

          -- the sums A + B and C + D made
          module _ {a5 b5 : List ℕ} (q5 : Doubled half a3 b3 a5 b5) where
            pub summed : Summed m a b out a5 b5 out4
            summed = factors_folded shape closed q5

            -- (A + B)(C + D) added
            module _ {l6 r6 o6 : List ℕ} {n6 : ℕ} (q6 : Made m (low half a5) (low half b5) (high half s out4) l6 r6 o6 n6) where
              pub third_added : ThirdAdded m a b out (low_back half a5 l6) (low_back half b5 r6) (high_back half s out4 o6)
              third_added = low_added shape summed q6

              third_count : Counted half n6
              third_count = counted_at (low_long summed.of_a.parts) q6.counted

              pub run_counted : Counted s (n2 +ℕ n3 +ℕ n6)
              run_counted = counted_whole shape first_count second_count third_count

              -- so that the counts fit a machine word
              pub run_fits : n2 +ℕ n3 +ℕ n6 ≤ 3 * 3 ^ longest_log
              run_fits =
                  omega (arith, counted_fits shape first_count, counted_fits shape second_count, counted_fits shape third_count)

              -- the sums undone
              module _ {a7 b7 : List ℕ} (q7 : Doubled half (low_back half a5 l6) (low_back half b5 r6) a7 b7) where
                last : Last m a b out a7 b7 (high_back half s out4 o6)
                last = factors_folded shape third_added q7

                pub run_made : high_back half s out4 o6 ≡ block_sum (gf m) out (block_product (gf m) a b)
                run_made = product_made m a b out shape start last

                pub run_back : (a7 ≡ a) × (b7 ≡ b)
                run_back = factors_back m a b out shape start last
