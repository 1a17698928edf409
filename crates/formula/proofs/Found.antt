-- What an evaluator finds follows from what it was told: the byte at its place, and what the evaluators that it called have found.
use mathlib.Core.Path.{◌≡◌, refl, sym, subst, ◌∙◌}
use mathlib.Core.Logic.{◌≢◌, ◌⊎◌, inl, inr}
use mathlib.Core.Bool.{Bool, true, false, ◌||◌, ◌&&◌, true≢false}
use mathlib.Core.List.{List}
use Prim.Native.Nat.{ℕ, suc, ◌+◌, ◌-◌, ◌<◌}
use native.Mathlib.Omega.{arith}
use lib.Dec.{eqb, lit<}
use lib.ListN.{length, get_or}
use borrow.Author.Tests.{eqb-true, eq-eqb}
use Rattle.field.specs.Gf.{Width, gf}
use Rattle.slices.specs.Elements.{Elements}
use Rattle.dyadic.specs.Block.{block_sum, block_product, block_inverse}
use Rattle.formula.specs.declared.evaluators.Cursor.{Cursor}
use Rattle.formula.specs.Letters.{Lent, is_lent, plus_byte, times_byte, over_byte, open_byte, close_byte}
use Rattle.dyadic.specs.Invertible.{is_invertible}
use Rattle.formula.specs.Callers.{Ready, BlockIs, LentFor}
use Rattle.formula.specs.Parser.{multiplied, divided}
use Rattle.formula.proofs.Passing.{product_times, product_over}
use Rattle.std.specs.Prelude.{Option, Some, None}
use Rattle.formula.specs.Evaluated.{Found, Kind, sums, products, terms, Held, Ends, NoneAt, OnFound, Finds, Moves}
use Rattle.formula.proofs.Steps.{on, held_letter, held_bracket, held_term, held_product, held_times, held_over, held_plus}
use Rattle.formula.proofs.Steps.{term_moves, product_moves}
use Rattle.formula.proofs.Refusing.{no_letter, no_bracket, no_inner, no_close, no_factor, no_addend}

pub resized : {m : ℕ} {β : Lent} {n n' : ℕ} → Ready m β n → n' ≡ n → Ready m β n'
resized {m} {β} ready e = subst (Ready m β) (sym e) ready

-- it goes on with * or with /
operator_is : (n : ℕ) → (eqb n times_byte || eqb n over_byte) ≡ true → (n ≡ times_byte) ⊎ (n ≡ over_byte)
operator_is n t = either (eqb n times_byte) refl t
  where
    either : (a : Bool) → eqb n times_byte ≡ a → (a || eqb n over_byte) ≡ true → (n ≡ times_byte) ⊎ (n ≡ over_byte)
    either true e q = inl (eqb-true n times_byte e)
    either false e q = inr (eqb-true n over_byte q)

module _ {K E : Kind} {m : ℕ} {β : Lent} {k : ℕ} {text : List ℕ} {from : Cursor} {value : List ℕ} {r : Found}
    (f : Finds K E m β k text from value r) where
  abbrev Holds : Cursor → Type 0
  Holds to = Held K m β k text from to value × Ends E (get_or text to.at 0)

  pub found_read : {to : Cursor} → r ≡ Some to → Holds to
  found_read z = subst (OnFound Holds (NoneAt K β k text from.at)) z f.found

  pub found_none : r ≡ None → NoneAt K β k text from.at
  found_none z = subst (OnFound Holds (NoneAt K β k text from.at)) z f.found

-- where no formula is, an evaluator finds none, also where a `?` hands that on
none_there : {K E : Kind} {m : ℕ} {β : Lent} {k : ℕ} {text : List ℕ} {from : Cursor} {value : List ℕ} {r : Found} → r ≡ None
    → NoneAt K β k text from.at → Finds K E m β k text from value r
none_there {K} {E} {m} {β} {k} {text} {from} {value} z none =
    record { found = subst (OnFound (λ to. Held K m β k text from to value × Ends E (get_or text to.at 0)) (NoneAt K β k text from.at)) (sym z) none }

module _ {m : ℕ} {β : Lent} {k : ℕ} {text : List ℕ} {from : Cursor} where
  -- ---- terms

  pub letter_read : {n byte : ℕ} {value block : List ℕ} {r : Option (List ℕ)} → Ready m β n → byte ≡ get_or text from.at 0 → LentFor β byte r
      → r ≡ Some block → value ≡ block → Held terms m β k text from (on from) value
  letter_read {byte = byte} {value} {block} {r} ready e f z copied =
      let (l, b, lent, v) = subst (BlockIs β byte) z f.block in
      let worth = copied ∙ v in
      held_letter m β text k from l (sym e ∙ b) lent worth (subst (Elements m) (sym worth) (ready.elements l))

  pub letter_none : {byte : ℕ} {new : List ℕ} {r : Option (List ℕ)} {r' : Found} → byte ≡ get_or text from.at 0 → byte ≢ open_byte → LentFor β byte r
      → r ≡ None → r' ≡ None → Finds terms terms m β k text from new r'
  letter_none {byte = byte} {r = r} e ne f z z' = none_there z' (no_letter m β text k from.at e ne (subst (BlockIs β byte) z f.block))

  -- with the marks after it
  pub marks_read : (last : Cursor) {next to : Cursor} {value new : List ℕ} → Held terms m β k text from (on last) value → next ≡ on last
      → ((β : Lent) (k : ℕ) (start : Cursor) → Held terms m β k text start next value → Held terms m β k text start to new)
      → Ends terms (get_or text to.at 0) → Finds terms terms m β k text from new (Some to)
  marks_read last {value = value} h x more ends =
      record { found = (more β k from (subst (λ (c : Cursor). Held terms m β k text from c value) (sym x) h), ends) }

  pub too_deep : {byte : ℕ} {value : List ℕ} → byte ≡ get_or text from.at 0 → byte ≡ open_byte → k ≡ 0
      → Finds terms terms m β k text from value None
  too_deep e o z =
      record { found = subst (λ (j : ℕ). NoneAt terms β j text from.at) (sym z) (no_bracket m β text from.at (sym e ∙ o)) }

  -- ---- products

  pub term_first : {value : List ℕ} {r : Found} {to : Cursor} → Finds terms terms m β k text from value r → r ≡ Some to
      → Held products m β k text from to value
  term_first f z = held_term m β text k (found_read f z).0

  pub factor_none : {value new : List ℕ} {r r' : Found} → Finds products terms m β k text from value r → r ≡ None → r' ≡ None
      → Finds products products m β k text from new r'
  factor_none f z z' = none_there z' (found_none f z)

  pub product_read : {value : List ℕ} {to : Cursor} {byte : ℕ} {more : Bool} → Held products m β k text from to value
      → Ends terms (get_or text to.at 0) → byte ≡ get_or text to.at 0 → more ≡ (eqb byte times_byte || eqb byte over_byte) → more ≡ false
      → Finds products products m β k text from value (Some to)
  product_read {byte = byte} h ends e x z =
      let (t, o) = neither (eqb byte times_byte) (eqb byte over_byte) (sym x ∙ z) in
      record { found = (h, (ends, λ q. t (eq-eqb byte times_byte (e ∙ q)), λ q. o (eq-eqb byte over_byte (e ∙ q)))) }
    where
      neither : (a b : Bool) → (a || b) ≡ false → (a ≢ true) × (b ≢ true)
      neither true b q = absurd (true≢false q)
      neither false true q = absurd (true≢false q)
      neither false false q = (λ w. true≢false (sym w), λ w. true≢false (sym w))

  -- ---- sums

  pub product_first : {value : List ℕ} {r : Found} {to : Cursor} → Finds products products m β k text from value r → r ≡ Some to
      → Held sums m β k text from to value
  product_first f z = held_product m β text k (found_read f z).0

  pub addend_none : {value new : List ℕ} {r r' : Found} → Finds sums products m β k text from value r → r ≡ None → r' ≡ None
      → Finds sums sums m β k text from new r'
  addend_none f z z' = none_there z' (found_none f z)

  pub sum_read : {value : List ℕ} {to : Cursor} {byte : ℕ} → Held sums m β k text from to value → Ends products (get_or text to.at 0)
      → byte ≡ get_or text to.at 0 → byte ≢ plus_byte → Finds sums sums m β k text from value (Some to)
  sum_read h ends e ne = record { found = (h, (ends.0, ends.1, ends.2, λ q. ne (e ∙ q))) }

-- ---- a sum in brackets

module _ {m : ℕ} {β : Lent} {k : ℕ} {text : List ℕ} (from : Cursor) {byte : ℕ} {next : Cursor} {value : List ℕ} {r : Found}
    (e : byte ≡ get_or text from.at 0) (o : byte ≡ open_byte) (ne : k ≢ 0)
    (x : next ≡ on from) (inner : Finds sums sums m β (k - 1) text next value r) where
  less : k ≡ suc (k - 1)
  less = omega arith

  pub inner_none : {new : List ℕ} {r' : Found} → r ≡ None → r' ≡ None → Finds terms terms m β k text from new r'
  inner_none z z' =
      none_there z'
      (subst (λ (j : ℕ). NoneAt terms β j text from.at) (sym less)
      (no_inner m β text (k - 1) from.at (sym e ∙ o) (subst (λ (c : Cursor). NoneAt sums β (k - 1) text c.at) x (found_none inner z))))

  module _ {to : Cursor} (z : r ≡ Some to) {last : ℕ} (e' : last ≡ get_or text to.at 0) where
    read : Held sums m β (k - 1) text (on from) to value × Ends sums (get_or text to.at 0)
    read = subst (λ (c : Cursor). Held sums m β (k - 1) text c to value × Ends sums (get_or text to.at 0)) x (found_read inner z)

    pub not_closed : {new : List ℕ} → last ≢ close_byte → Finds terms terms m β k text from new None
    not_closed apart =
        record {
          found =
              subst (λ (j : ℕ). NoneAt terms β j text from.at) (sym less)
              (no_close m β text (k - 1) from (sym e ∙ o) read.0 read.1 (λ c. apart (e' ∙ c)));
        }

    pub bracket_read : last ≡ close_byte → Held terms m β k text from (on to) value
    bracket_read c =
        subst (λ (j : ℕ). Held terms m β j text from (on to) value) (sym less)
        (held_bracket m β text (k - 1) from read.0 (sym e ∙ o) (sym e' ∙ c))

-- ---- a factor, and an addend, after what was read from `start` on

module _ {m : ℕ} {β : Lent} {k : ℕ} {text : List ℕ} (from : Cursor) {next : Cursor} (x : next ≡ on from) where
  module _ {other : List ℕ} {r : Found} (found : Finds terms terms m β k text next other r) where
    term_held : {to : Cursor} → r ≡ Some to → Held terms m β k text (on from) to other × Ends terms (get_or text to.at 0)
    term_held {to} z =
        subst (λ (c : Cursor). Held terms m β k text c to other × Ends terms (get_or text to.at 0)) x (found_read found z)

    pub factor_moves : {to : Cursor} → r ≡ Some to → from.at < to.at
    factor_moves z =
        let l = term_moves m β text (term_held z).0 in omega arith

    module _ {start : Cursor} {value : List ℕ} (W : Width m) (h : Held products m β k text start from value) where
      pub no_term : {new : List ℕ} {r' : Found} → (eqb (get_or text from.at 0) times_byte || eqb (get_or text from.at 0) over_byte) ≡ true → r ≡ None
          → r' ≡ None → Finds products terms m β k text start new r'
      no_term operator z z' = none_there z' (by (operator_is (get_or text from.at 0) operator))
        where
          none : NoneAt terms β k text (from.at + 1)
          none = subst (λ (c : Cursor). NoneAt terms β k text c.at) x (found_none found z)

          by : (get_or text from.at 0 ≡ times_byte) ⊎ (get_or text from.at 0 ≡ over_byte) → NoneAt products β k text start.at
          by (inl e) =
              no_factor m β text k h times_byte (multiplied h.tree) (λ outer s. product_times (is_lent β) k outer s h.tree) e (lit< tt) none
          by (inr e) =
              no_factor m β text k h over_byte (divided h.tree) (λ outer s. product_over (is_lent β) k outer s h.tree) e (lit< tt) none

      pub times_read : {to : Cursor} {byte : ℕ} {new : List ℕ} → r ≡ Some to → byte ≡ get_or text from.at 0 → byte ≡ times_byte
          → new ≡ block_product (gf m) value other → Finds products terms m β k text start new (Some to)
      times_read z e o v =
          let (t, ends) = term_held z in record { found = (held_times m β text k W h (sym e ∙ o) t v, ends) }

      pub over_read : {to : Cursor} {byte : ℕ} {new : List ℕ} {exists : Bool} → r ≡ Some to → byte ≡ get_or text from.at 0 → byte ≢ times_byte
          → (eqb (get_or text from.at 0) times_byte || eqb (get_or text from.at 0) over_byte) ≡ true → exists ≡ is_invertible m other
          → new ≡ block_product (gf m) value (block_inverse (gf m) other)
          → Finds products terms m β k text start new (Some (record { at = to.at; exists = to.exists && exists }))
      over_read z e ne operator x' v =
          let (t, ends) = term_held z in
          record { found = (held_over m β text k W h (divides (operator_is (get_or text from.at 0) operator)) t x' v, ends) }
        where
          divides : (get_or text from.at 0 ≡ times_byte) ⊎ (get_or text from.at 0 ≡ over_byte) → get_or text from.at 0 ≡ over_byte
          divides (inl q) = absurd (ne (e ∙ q))
          divides (inr q) = q

  module _ {other : List ℕ} {r : Found} (found : Finds products products m β k text next other r) where
    found_on : Finds products products m β k text (on from) other r
    found_on = subst (λ (c : Cursor). Finds products products m β k text c other r) x found

    pub addend_found : {start : Cursor} {value new : List ℕ} → Width m → get_or text from.at 0 ≡ plus_byte → length other ≡ length value
        → new ≡ block_sum (gf m) value other → Held sums m β k text start from value → Finds sums products m β k text start new r
    addend_found {start} {value} {new} W plus long v h = record { found = by r found_on.found }
      where
        by : (f : Found) → OnFound (λ to. Held products m β k text (on from) to other × Ends products (get_or text to.at 0))
            (NoneAt products β k text (from.at + 1)) f
            → OnFound (λ to. Held sums m β k text start to new × Ends products (get_or text to.at 0)) (NoneAt sums β k text start.at) f
        by (Some to) (p, ends) = (held_plus m β text k W long h plus p v, ends)
        by None none = no_addend m β text k h plus none

    pub addend_moves : Moves from.at r
    addend_moves = record { moves = by r found_on.found }
      where
        by : (f : Found) → OnFound (λ to. Held products m β k text (on from) to other × Ends products (get_or text to.at 0))
            (NoneAt products β k text (from.at + 1)) f → OnFound (λ to. from.at < to.at) (Unit {0}) f
        by (Some to) (p, ends) =
            let l = product_moves m β text p in omega arith
        by None none = tt
