-- How what an evaluator holds grows: by a letter, a mark, a pair of brackets, a factor, an addend.
use mathlib.Core.Path.{◌≡◌, refl, sym, ap, ap₂, subst, ◌∙◌}
use mathlib.Core.Bool.{Bool, true, ◌&&◌, and-true, and_assoc}
use mathlib.Core.List.{List, [], ◌∷◌, ◌++◌, append_assoc}
use Prim.Native.Nat.{ℕ, suc, ◌+◌, ◌<◌}
use native.Mathlib.Omega.{arith}
use lib.Dec.{lit<}
use lib.ListN.{length, drop, get_or, length-append, length-drop}
use Rattle.field.specs.Gf.{Width, gf}
use Rattle.slices.specs.Elements.{Elements}
use Rattle.dyadic.specs.Block.{block_sum, block_product, block_inverse}
use Rattle.formula.specs.declared.evaluators.Cursor.{Cursor}
use Rattle.formula.specs.Letters.{Letter, A, B, C, D, letter_byte, Lent, block_of, is_lent}
use Rattle.formula.specs.Letters.{plus_byte, times_byte, over_byte, mark_byte, open_byte, close_byte}
use Rattle.formula.specs.Grammar.{product, ◌plus◌, term, ◌times◌, ◌over◌, letter, bracket, inverse, sum_text, product_text, term_text}
use Rattle.formula.specs.Reading.{SumWithin}
use Rattle.dyadic.specs.Invertible.{is_invertible}
use Rattle.formula.specs.Value.{sum_block, term_block, sum_exists, product_exists, term_exists}
use Rattle.formula.specs.Evaluated.{Kind, sums, products, terms, text_of, Held}
use Rattle.algebra.specs.ListLaws.{inside, here_is}
use Rattle.formula.proofs.Written.{term_written, product_written}
use Rattle.dyadic.specs.BlockElements.{sum_elements, product_elements, inverse_elements}

-- the cursor after a byte
abbrev pub on : Cursor → Cursor
on c = record { at = c.at + 1; exists = c.exists }

-- the byte at a cursor, and 0 past the end
abbrev pub byte_at : List ℕ → Cursor → ℕ
byte_at text c = get_or text c.at 0

letter_positive : (l : Letter) → 0 < letter_byte l
letter_positive A = lit< tt
letter_positive B = lit< tt
letter_positive C = lit< tt
letter_positive D = lit< tt

module _ (m : ℕ) (β : Lent) (text : List ℕ) where
  -- a text that goes on with a byte, and then with another part
  joined : (u v : List ℕ) (i j k n : ℕ) → drop i text ≡ u ++ drop j text → get_or text j 0 ≡ n → 0 < n → drop (j + 1) text ≡ v ++ drop k text
      → drop i text ≡ (u ++ n ∷ v) ++ drop k text
  joined u v i j k n first e pos second =
      first ∙ ap (λ (l : List ℕ). u ++ l) (here_is text j e pos ∙ ap (λ (l : List ℕ). n ∷ l) second) ∙ sym (append_assoc u (n ∷ v) (drop k text))

  pub held_letter : (k : ℕ) (from : Cursor) {value : List ℕ} (l : Letter) → byte_at text from ≡ letter_byte l → is_lent β l ≡ true → value ≡ block_of β l
      → Elements m value → Held terms m β k text from (on from) value
  unfolding term_text SumWithin sum_block sum_exists
  held_letter k from l e lent b h =
      record {
        tree = letter l;
        spans = here_is text from.at e (letter_positive l);
        inside = let i = inside text from.at e (letter_positive l) in omega arith;
        within = lent;
        living = sym (and-true from.exists);
        worth = b;
        elements = h;
      }

  pub held_mark : (k : ℕ) (W : Width m) {start from : Cursor} {value new : List ℕ} {exists : Bool} → Held terms m β k text start from value
      → byte_at text from ≡ mark_byte → exists ≡ is_invertible m value → new ≡ block_inverse (gf m) value
      → Held terms m β k text start (record { at = from.at + 1; exists = from.exists && exists }) new
  unfolding term_text SumWithin sum_block sum_exists
  held_mark k W {start} {from} {value} h e x v =
      record {
        tree = inverse h.tree;
        spans = joined (term_text h.tree) [] start.at from.at (from.at + 1) mark_byte h.spans e (lit< tt) refl;
        inside = let i = inside text from.at e (lit< tt) in omega arith;
        within = h.within;
        living =
            ap₂ ◌&&◌ h.living (x ∙ ap (is_invertible m) h.worth) ∙ and_assoc start.exists _ _;
        worth = v ∙ ap (block_inverse (gf m)) h.worth;
        elements = subst (Elements m) (sym v) (inverse_elements m W value);
      }

  pub held_bracket : (k : ℕ) (from : Cursor) {to : Cursor} {value : List ℕ} → Held sums m β k text (on from) to value → byte_at text from ≡ open_byte
      → byte_at text to ≡ close_byte → Held terms m β (suc k) text from (on to) value
  unfolding term_text SumWithin sum_block sum_exists
  held_bracket k from {to} h e e' =
      record {
        tree = bracket h.tree;
        spans =
            joined [] (sum_text h.tree ++ close_byte ∷ []) from.at from.at (to.at + 1) open_byte refl e (lit< tt)
            (joined (sum_text h.tree) [] (from.at + 1) to.at (to.at + 1) close_byte h.spans e' (lit< tt) refl);
        inside = let i = inside text to.at e' (lit< tt) in omega arith;
        within = h.within;
        living = h.living;
        worth = h.worth;
        elements = h.elements;
      }

  pub held_term : (k : ℕ) {start from : Cursor} {value : List ℕ} → Held terms m β k text start from value → Held products m β k text start from value
  unfolding term_text SumWithin sum_block sum_exists
  held_term k h =
      record {
        tree = term h.tree;
        spans = h.spans;
        inside = h.inside;
        within = h.within;
        living = h.living;
        worth = h.worth;
        elements = h.elements;
      }

  pub held_product : (k : ℕ) {start from : Cursor} {value : List ℕ} → Held products m β k text start from value
      → Held sums m β k text start from value
  unfolding term_text SumWithin sum_block sum_exists
  held_product k h =
      record {
        tree = product h.tree;
        spans = h.spans;
        inside = h.inside;
        within = h.within;
        living = h.living;
        worth = h.worth;
        elements = h.elements;
      }

  pub held_times : (k : ℕ) (W : Width m) {start from to : Cursor} {value other new : List ℕ} → Held products m β k text start from value
      → byte_at text from ≡ times_byte → Held terms m β k text (on from) to other → new ≡ block_product (gf m) value other
      → Held products m β k text start to new
  unfolding term_text SumWithin sum_block sum_exists
  held_times k W {start} {from} {to} {value} {other} h e h' v =
      record {
        tree = h.tree times h'.tree;
        spans =
            joined (product_text h.tree) (term_text h'.tree) start.at from.at to.at times_byte h.spans e (lit< tt) h'.spans;
        inside = h'.inside;
        within = (h.within, h'.within);
        living = h'.living ∙ ap (λ (b : Bool). b && term_exists m β h'.tree) h.living ∙ and_assoc start.exists _ _;
        worth = v ∙ ap₂ (block_product (gf m)) h.worth h'.worth;
        elements = subst (Elements m) (sym v) (product_elements m W value other);
      }

  pub held_over : (k : ℕ) (W : Width m) {start from to : Cursor} {value other new : List ℕ} {exists : Bool}
      → Held products m β k text start from value → byte_at text from ≡ over_byte → Held terms m β k text (on from) to other
      → exists ≡ is_invertible m other → new ≡ block_product (gf m) value (block_inverse (gf m) other)
      → Held products m β k text start (record { at = to.at; exists = to.exists && exists }) new
  unfolding term_text SumWithin sum_block sum_exists
  held_over k W {start} {from} {to} {value} {other} h e h' x v =
      record {
        tree = h.tree over h'.tree;
        spans =
            joined (product_text h.tree) (term_text h'.tree) start.at from.at to.at over_byte h.spans e (lit< tt) h'.spans;
        inside = h'.inside;
        within = (h.within, h'.within);
        living =
            ap₂ ◌&&◌ (h'.living ∙ ap (λ (b : Bool). b && q) h.living) (x ∙ ap (is_invertible m) h'.worth)
            ∙ ap (λ (b : Bool). b && i) (and_assoc start.exists p q) ∙ and_assoc start.exists (p && q) i
            ∙ ap (λ (b : Bool). start.exists && b) (and_assoc p q i);
        worth = v ∙ ap₂ (λ (x y : List ℕ). block_product (gf m) x (block_inverse (gf m) y)) h.worth h'.worth;
        elements = subst (Elements m) (sym v) (product_elements m W value (block_inverse (gf m) other));
      }
    where
      p : Bool
      p = product_exists m β h.tree

      q : Bool
      q = term_exists m β h'.tree

      i : Bool
      i = is_invertible m (term_block m β h'.tree)

  pub held_plus : (k : ℕ) (W : Width m) {start from to : Cursor} {value other new : List ℕ} → length other ≡ length value
      → Held sums m β k text start from value → byte_at text from ≡ plus_byte → Held products m β k text (on from) to other
      → new ≡ block_sum (gf m) value other → Held sums m β k text start to new
  unfolding term_text SumWithin sum_block sum_exists
  held_plus k W {start} {from} {to} {value} {other} long h e h' v =
      record {
        tree = h.tree plus h'.tree;
        spans =
            joined (sum_text h.tree) (product_text h'.tree) start.at from.at to.at plus_byte h.spans e (lit< tt) h'.spans;
        inside = h'.inside;
        within = (h.within, h'.within);
        living = h'.living ∙ ap (λ (b : Bool). b && product_exists m β h'.tree) h.living ∙ and_assoc start.exists _ _;
        worth = v ∙ ap₂ (block_sum (gf m)) h.worth h'.worth;
        elements = subst (Elements m) (sym v) (sum_elements m W value other long h.elements h'.elements);
      }

  -- what is held takes at least a byte
  moved : (K : Kind) {k : ℕ} {from to : Cursor} {value : List ℕ} (h : Held K m β k text from to value) → 0 < length (text_of K h.tree)
      → from.at < to.at
  moved K {from = from} {to} h written =
      let e : length (drop from.at text) ≡ length (text_of K h.tree) + length (drop to.at text) =
      ap length h.spans ∙ length-append (text_of K h.tree) (drop to.at text) in
      let left = length-drop from.at text in
      let right = length-drop to.at text in
      omega (arith, h.inside)

  pub term_moves : {k : ℕ} {from to : Cursor} {value : List ℕ} → Held terms m β k text from to value → from.at < to.at
  term_moves h = moved terms h (term_written h.tree)

  pub product_moves : {k : ℕ} {from to : Cursor} {value : List ℕ} → Held products m β k text from to value → from.at < to.at
  product_moves h = moved products h (product_written h.tree)
