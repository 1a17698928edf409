-- Demand 2: "Within 01's limits a signature is accepted exactly if two disjoint sequences of distinct field elements exist whose Cauchy matrix is
-- its dyadic matrix; such a pair then comes back for every offset. Encoding a message gives the one code word that carries it, and reading that word
-- gives the message. Block products and inverses are those of the full matrices. State this over the field's width".
--
-- Every law here is for every width m of the table, and what is said of words is said at every setting: of the whole code, and of every selection,
-- whatever message columns are hidden.
use Rattle.std.specs.Prelude.{◌≡◌, ◌≢◌, ◌↔◌, true, ℕ, ◌*◌, ◌^◌, ◌<◌, ◌≤◌, eqb, length}
use Rattle.std.proofs.Math.Path.{refl, sym, ap, subst}
use Rattle.std.proofs.Common.{◌∙◌}
use Rattle.std.proofs.Math.Bool.{false≢true}
use mathlib.Core.List.{List}
use borrow.Author.Tests.{eq-eqb, not-true}
use Rattle.algebra.specs.Lists.{entry_of}
use Rattle.algebra.specs.TabulateLaws.{get_d_tabulate}
use Rattle.refusals.specs.Answered.{done_none}
use Rattle.refusals.specs.Outcome.{Done, Refused}
use Rattle.refusals.specs.RuleLaws.{fault_none, hold, given}
use Rattle.field.specs.Gf.{Width, gf}
use Rattle.field.proofs.GfLaws.{gf_laws}
use Rattle.field.specs.Range.{is_width}
use Rattle.field.specs.RangeLaws.{width_is}
use Rattle.slices.specs.Bits.{Bits, all_bits}
use Rattle.slices.specs.BitLaws.{bits_are}
use Rattle.slices.specs.Elements.{Elements, all_elements}
use Rattle.slices.specs.ElementLaws.{elements_are}
use Rattle.slices.specs.Lengths.{is_power}
use Rattle.slices.specs.LengthLaws.{power_is}
use Rattle.signature.specs.Signature.{Cauchy, HasCauchy}
use Rattle.dyadic.specs.Block.{matrix, block_sum, block_product, total, block_inverse}
use Rattle.dyadic.specs.Invertible.{is_invertible}
use Rattle.dyadic.proofs.Laws.{matrix_sum_lem, matrix_product_lem, left_inverse, right_inverse, no_left_inverse, no_right_inverse}
use Rattle.dyadic.specs.Matrix.{Matrix, Same, matrix_sum, matrix_product, identity}
use Rattle.blocks.specs.Answers.{size_rules, block_rules, pair_rules, inverse_rules, pair_fault, inverse_fault}
use Rattle.blocks.specs.Answers.{sum_answer, sum_after, product_answer, product_after, inverse_answer, inverse_after}
use Rattle.params.specs.declared.Parameters.{Parameters}
use Rattle.params.specs.Code.{with_offset, Limits, Accepted}
use Rattle.params.proofs.Accepted.{offset_accepted}
use Rattle.codes.specs.Answers.{check_answer, roots_after, support_after}
use Rattle.codes.specs.Acceptance.{accepted_done, done_exactly, done_pair, done_short}
use Rattle.parity.specs.Columns.{dimension, message_of, encoding_of}
use Rattle.parity.specs.Encoding.{encoding_carries, encoding_only}
use Rattle.parity.specs.Word.{syndrome_at, syndrome_of}
use Rattle.shortened.specs.Fits.{Fits}
use Rattle.shortened.specs.Setting.{Setting, short_code, places, columns_of}
use Rattle.shortened.proofs.SettingLaws.{setting_leaves}
use Rattle.messages.specs.MessageRules.{message_rules}
use Rattle.words.specs.Answers.{bit_rules, syndrome_fault, syndrome_answer, syndrome_after}
use Rattle.words.specs.Answers.{encode_fault, encode_answer, encode_after, message_fault, message_answer, message_after}
use Rattle.demands.specs.CodeWords.{CodeWord, code_word_on, code_word_lem}
use Rattle.demands.specs.Offsets.{checked_alike}
use Rattle.demands.specs.Zero.{block_inverse_9_exactly}

-- ---- codes

-- "Within 01's limits a signature is accepted exactly if two disjoint sequences of distinct field elements exist whose Cauchy matrix is its dyadic
-- matrix": with marks that hide message columns only, since check tests the marks too
pub accepted_exactly : (c : Parameters) (h hidden roots support : List ℕ) → Limits c h → c.omega < 2 ^ c.m → Fits c h (short_code hidden)
    → length roots ≡ c.n → length support ≡ c.n → (check_answer c h hidden roots support ≡ Done) ↔ HasCauchy (gf c.m) c.n (entry_of h)
accepted_exactly = done_exactly

-- "such a pair then comes back for every offset"
pub pair_for_every_offset : {c : Parameters} {h hidden : List ℕ} → Accepted c h → Fits c h (short_code hidden) → (ω : ℕ) → ω < 2 ^ c.m
    → (roots support : List ℕ) → length roots ≡ c.n → length support ≡ c.n
    → (check_answer (with_offset c ω) h hidden roots support ≡ Done)
    × Cauchy (gf c.m) c.n (entry_of h)
    (entry_of (roots_after (with_offset c ω) h hidden roots support)) (entry_of (support_after (with_offset c ω) h hidden roots support))
pair_for_every_offset {c} {h} {hidden} A F ω l roots support r s =
    let alike = checked_alike A (offset_accepted ω l A) refl refl refl hidden roots support in
    let done = sym alike ∙ accepted_done c h hidden roots support r s A F in
    (done, done_pair (with_offset c ω) h hidden roots support done)

-- 01: "n above q/2 is therefore never accepted"
pub never_above_half : (c : Parameters) (h hidden roots support : List ℕ) → check_answer c h hidden roots support ≡ Done → 2 * c.n ≤ 2 ^ c.m
never_above_half = done_short

-- ---- words: of the whole code, and of every selection, without the hidden places

-- what encoding leaves
pub record Encoded (c : Parameters) (h : List ℕ) (s : Setting) (message word : List ℕ) : Type 0 where
  pub is_code_word : CodeWord c h s word
  -- "reading that word gives the message"
  pub reads : (buffer : List ℕ) → length buffer ≡ dimension c h (columns_of c s)
      → (message_answer c h s word buffer ≡ Done) × (message_after c h s word buffer ≡ message)
  -- "the one code word that carries it"
  pub only : (w buffer : List ℕ) → CodeWord c h s w → length buffer ≡ dimension c h (columns_of c s) → message_after c h s w buffer ≡ message → w ≡ word

module _ {c : Parameters} {h : List ℕ} (A : Accepted c h) (s : Setting) (F : Fits c h s) where
  abbrev k : ℕ
  k = dimension c h (columns_of c s)

  -- taking the message out of a word of bits is not refused
  pub message_taken : (w buffer : List ℕ) → length w ≡ places s → Bits w → length buffer ≡ k
      → (message_answer c h s w buffer ≡ Done) × (message_after c h s w buffer ≡ message_of c h (columns_of c s) w)
  unfolding message_answer message_after message_fault message_rules
  message_taken w buffer long bits fits =
      let none =
      setting_leaves A s F refl (eq-eqb (length w) (places s) long) (message_rules k (length buffer) (all_bits w))
      ∙ fault_none (message_rules k (length buffer) (all_bits w)) (eq-eqb (length buffer) k fits, ((bits_are w).1 bits, tt)) in
      (given Refused Done none, given (λ k. buffer) (message_of c h (columns_of c s) w) none)

  -- "Encoding a message gives the one code word that carries it, and reading that word gives the message."
  pub encoded : (message word : List ℕ) → length message ≡ dimension c h (columns_of c s) → Bits message → length word ≡ places s
      → (encode_answer c h s message word ≡ Done) × Encoded c h s message (encode_after c h s message word)
  unfolding encode_answer encode_after encode_fault message_rules
  encoded message word fits bits long =
      let none =
      setting_leaves A s F refl (eq-eqb (length word) (places s) long) (message_rules k (length message) (all_bits message))
      ∙ fault_none (message_rules k (length message) (all_bits message)) (eq-eqb (length message) k fits, ((bits_are message).1 bits, tt)) in
      (given Refused Done none, subst (Encoded c h s message) (sym (given (λ k. word) (encoding_of c h (columns_of c s) message) none)) carried)
    where
      carried : Encoded c h s message (encoding_of c h (columns_of c s) message)
      carried =
          let cols = columns_of c s in
          let coded = encoding_of c h cols message in
          let W = A.limits.width in
          let (b, k, q) = encoding_carries c h cols W message fits bits in
          let C = code_word_lem c h s coded (record { bits = b; code = k }) in
          record {
            is_code_word = C;
            reads = λ buffer room. let (done, after) = message_taken coded buffer C.long C.bits room in (done, after ∙ q);
            only = λ w buffer D room e.
                let on = code_word_on c h s w D in
                encoding_only c h cols W message w fits bits on.bits on.code
                (sym (message_taken w buffer D.long D.bits room).1 ∙ e);
          }

  -- 01: "Its syndrome is those t sums"; they are all zero exactly if the word is a code word
  pub zero_syndrome : (word out : List ℕ) → length word ≡ places s → Bits word → length out ≡ c.t
      → (syndrome_answer c h s word out ≡ Done)
      × (((i : ℕ) → i < c.t → entry_of (syndrome_after c h s word out) i ≡ 0) ↔ CodeWord c h s word)
  unfolding syndrome_answer syndrome_after syndrome_fault bit_rules syndrome_of
  zero_syndrome word out long bits fits =
      let none =
      setting_leaves A s F (eq-eqb (length out) c.t fits) (eq-eqb (length word) (places s) long) (bit_rules word)
      ∙ fault_none (bit_rules word) ((bits_are word).1 bits, tt) in
      let after = given (λ k. out) (syndrome_of c h (columns_of c s) word) none in (
        given Refused Done none,
        (
          λ z. record { long = long; bits = bits; zero = λ i l. sym (at i l) ∙ ap (λ (x : List ℕ). entry_of x i) (sym after) ∙ z i l },
          λ C i l. ap (λ (x : List ℕ). entry_of x i) after ∙ at i l ∙ C.zero i l,
        ),
      )
    where
      at : (i : ℕ) → i < c.t → entry_of (syndrome_of c h (columns_of c s) word) i ≡ syndrome_at c h (columns_of c s) word i
      at i l = get_d_tabulate c.t (syndrome_at c h (columns_of c s) word) i 0 l

-- ---- blocks: "Block products and inverses are those of the full matrices."

module _ (m : ℕ) (a out : List ℕ) where
  -- a block that is not refused: its width is one of the table, its length is a power of two, and it holds elements
  module _ (b : List ℕ) (none : pair_fault m a b (length out) ≡ 0) where
    pair_sized : (e : ℕ) × (length a ≡ 2 ^ e) × (is_width m ≡ true)
    unfolding pair_fault pair_rules size_rules
    pair_sized =
        let (width, more) = hold (pair_rules m a b (length out)) tt none in
        let (e, low, is) = power_is (length a) more.0 in (e, is, width)

  pub sum_of_matrices : (b : List ℕ) → sum_answer m a b out ≡ Done
      → Same (length a) (matrix (gf m) (sum_after m a b out)) (matrix_sum (gf m) (matrix (gf m) a) (matrix (gf m) b))
  unfolding sum_answer sum_after
  sum_of_matrices b e =
      let none = done_none (pair_fault m a b (length out)) e in
      let (log, long, width) = pair_sized b none in
      subst (λ (x : List ℕ). Same (length a) (matrix (gf m) x) (matrix_sum (gf m) (matrix (gf m) a) (matrix (gf m) b)))
      (sym (given (λ k. out) (block_sum (gf m) a b) none))
      (subst (λ (s : ℕ). Same s (matrix (gf m) (block_sum (gf m) a b)) (matrix_sum (gf m) (matrix (gf m) a) (matrix (gf m) b))) (sym long)
      (matrix_sum_lem (gf m) (gf_laws m (width_is m width)) log a b long))

  pub product_of_matrices : (b : List ℕ) → product_answer m a b out ≡ Done
      → Same (length a) (matrix (gf m) (product_after m a b out)) (matrix_product (gf m) (length a) (matrix (gf m) a) (matrix (gf m) b))
  unfolding product_answer product_after
  product_of_matrices b e =
      let none = done_none (pair_fault m a b (length out)) e in
      let (log, long, width) = pair_sized b none in
      subst (λ (x : List ℕ). Same (length a) (matrix (gf m) x) (matrix_product (gf m) (length a) (matrix (gf m) a) (matrix (gf m) b)))
      (sym (given (λ k. out) (block_product (gf m) a b) none))
      (subst (λ (s : ℕ). Same s (matrix (gf m) (block_product (gf m) a b)) (matrix_product (gf m) s (matrix (gf m) a) (matrix (gf m) b))) (sym long)
      (matrix_product_lem (gf m) (gf_laws m (width_is m width)) log a b long))

  -- a block whose inverse is asked for, past 1 to 3
  record Shaped : Type 0 where
    pub log : ℕ
    pub long : length a ≡ 2 ^ log
    pub width : Width m
    pub elements : Elements m a

  shaped : is_width m ≡ true → is_power (length a) ≡ true → all_elements m a ≡ true → Shaped
  shaped w p e =
      let (log, low, is) = power_is (length a) p in
      record { log = log; long = is; width = width_is m w; elements = (elements_are m a).0 e }

  alive : is_invertible m a ≡ true → total (gf m) a ≢ 0
  unfolding is_invertible
  alive t z = false≢true (sym (not-true (eqb (total (gf m) a) 0) t) ∙ eq-eqb (total (gf m) a) 0 z)

  abbrev Inverses : List ℕ → ℕ → Type 0
  Inverses x s =
      Same s (matrix_product (gf m) s (matrix (gf m) x) (matrix (gf m) a)) (identity (gf m))
      × Same s (matrix_product (gf m) s (matrix (gf m) a) (matrix (gf m) x)) (identity (gf m))

  -- the matrix of what comes back is the inverse, on both sides
  pub inverse_of_matrix : inverse_answer m a out ≡ Done
      → Same (length a) (matrix_product (gf m) (length a) (matrix (gf m) (inverse_after m a out)) (matrix (gf m) a)) (identity (gf m))
      × Same (length a) (matrix_product (gf m) (length a) (matrix (gf m) a) (matrix (gf m) (inverse_after m a out))) (identity (gf m))
  unfolding inverse_answer inverse_after inverse_fault inverse_rules block_rules size_rules
  inverse_of_matrix e =
      let none : inverse_fault m a (length out) ≡ 0 = done_none (inverse_fault m a (length out)) e in
      let held = hold (inverse_rules m a (length out)) tt none in
      let H = shaped held.0 held.1.0 held.1.1.1.0 in
      let nonzero = alive held.1.1.1.1.0 in
      let F = gf_laws m H.width in
      let ins : (i : ℕ) → i < 2 ^ H.log → entry_of a i < 2 ^ m = λ i l. H.elements i (subst (λ (k : ℕ). i < k) (sym H.long) l) in
      subst (λ (x : List ℕ). Inverses x (length a)) (sym (given (λ k. out) (block_inverse (gf m) a) none))
      (subst (Inverses (block_inverse (gf m) a)) (sym H.long)
      (left_inverse (gf m) F H.log a H.long ins nonzero, right_inverse (gf m) F H.log a H.long ins nonzero))

  -- where the block is refused by 9 no matrix is its inverse, on either side
  pub no_inverse : inverse_answer m a out ≡ Refused 9 → (X : Matrix ℕ)
      → (¬ Same (length a) (matrix_product (gf m) (length a) X (matrix (gf m) a)) (identity (gf m)))
      × (¬ Same (length a) (matrix_product (gf m) (length a) (matrix (gf m) a) X) (identity (gf m)))
  unfolding block_rules size_rules
  no_inverse e X =
      let (held, zero) = (block_inverse_9_exactly m a out).0 e in
      let H = shaped held.0 held.1.0 held.1.1.1.0 in
      let F = gf_laws m H.width in (
        λ same. no_left_inverse (gf m) F H.log a H.long zero X
            (subst (λ (s : ℕ). Same s (matrix_product (gf m) s X (matrix (gf m) a)) (identity (gf m))) H.long same),
        λ same. no_right_inverse (gf m) F H.log a H.long zero X
            (subst (λ (s : ℕ). Same s (matrix_product (gf m) s (matrix (gf m) a) X) (identity (gf m))) H.long same),
      )
