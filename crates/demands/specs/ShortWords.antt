-- Demands 2 and 3 for short words, in the request's words. "A hidden place must be a message column, always holds 0 and isn't transmitted. k counts
-- sent message columns only, and words and messages shrink to match. The nearest-word guarantee is then about code words that are 0 at every hidden
-- place, with distance over sent places."
--
-- What is said of the words that are sent, at every setting, stands in `Demand2` and `Demand3`: that is the code of the sent columns. Here it is said
-- of the words of all places.
use Rattle.std.specs.Prelude.{◌≡◌, refl, ◌≢◌, ◌↔◌, ◌⊎◌, Bool, ◌&&◌, eqb}
use Rattle.std.proofs.Math.Path.{sym, ap, ap₂, subst}
use Rattle.std.proofs.Common.{◌∙◌, inl, inr}
use Rattle.std.proofs.Math.Bool.{true, false, cond, not}
use mathlib.Core.List.{List}
use Prim.Native.Nat.{ℕ, ◌<◌, ◌≤◌}
use Rattle.std.proofs.Math.ListN.{length}
use Rattle.std.proofs.Math.Seq.{ext_get_or}
use Rattle.algebra.specs.Lists.{entry_of}
use Rattle.algebra.specs.Places.{count}
use Rattle.algebra.specs.PlaceLaws.{count_tests}
use Rattle.algebra.specs.Subsequence.{count_chosen}
use Rattle.algebra.specs.TabulateLaws.{get_d_tabulate, length-tabulate}
use Rattle.refusals.specs.Outcome.{Done}
use Rattle.slices.specs.Bits.{Bits, IsBits}
use Rattle.params.specs.declared.Parameters.{Parameters}
use Rattle.params.specs.Code.{Accepted}
use Rattle.parity.specs.Columns.{is_message_column, roles_of, dimension, message_of}
use Rattle.columns.specs.Choice.{all_places, all_columns}
use Rattle.shortened.specs.Fits.{Fits}
use Rattle.shortened.specs.Marks.{is_sent, sent_count, sent_of, full_word, sent_dimension}
use Rattle.shortened.specs.MarkLaws.{length_sent, full_sent, full_hidden, length_full, sent_of_full, full_of_sent}
use Rattle.shortened.specs.MarkLaws.{full_bits, From, from, sent_from}
use Rattle.shortened.specs.Setting.{Setting, places, columns_of}
use Rattle.shortened.proofs.SettingLaws.{fits_marked}
use Rattle.shortened.specs.ShortCode.{syndrome_short, role_short, dimension_short, message_short}
use Rattle.nearest.specs.Repair.{differs, distance}
use Rattle.words.specs.Answers.{encode_answer, encode_after, message_after}
use Rattle.repair.specs.declared.Recovery.TheVariants.{Repaired, Refused}
use Rattle.repair.specs.Answers.{repair_answer, repair_after}
use Rattle.demands.specs.CodeWords.{CodeWord, is_bits}
use Rattle.demands.specs.Demand2.{encoded, message_taken}
use Rattle.demands.specs.Demand3.{Nearest, demand_3}
use Rattle.demands.specs.ShortWord.{FullCodeWord, sent_distance, sent_message}

module _ {c : Parameters} {h : List ℕ} (A : Accepted c h) (s : Setting) (F : Fits c h s) where
  abbrev pub hidden : List ℕ
  hidden = s.hidden

  abbrev pub cols : List ℕ
  cols = all_columns c s.choice

  -- the word of all places behind a word that is sent
  abbrev pub full : List ℕ → List ℕ
  full = full_word s.hidden

  marked : length hidden ≡ all_places c s.choice
  marked = fits_marked F

  -- ---- the shortened code is the code of the sent columns

  -- a word is a code word of the sent columns exactly if the word of all places, with 0 at the hidden ones, is a code word
  pub short_code_word : (w : List ℕ) → length w ≡ places s → CodeWord c h s w ↔ FullCodeWord c h s (full w)
  unfolding columns_of
  short_code_word w long = (
    λ C.
        let b = full_bits hidden (is_bits C.long C.bits) in
        record {
          long = length_full hidden w ∙ marked;
          bits = λ p l. b.bits p (subst (λ (k : ℕ). p < k) b.long l);
          zero = λ i l. sym (syndrome_short c h cols hidden A.limits.width F.hides.long w i) ∙ C.zero i l;
          hidden = λ p l f. full_hidden hidden w p (subst (λ (k : ℕ). p < k) (sym marked) l) f;
        },
    λ C. record {
      long = long;
      bits = λ j l.
          let D = from hidden j (subst (λ (k : ℕ). j < k) long l) in
          subst (λ (x : ℕ). x < 2) (from_full w long j D)
          (C.bits D.place (subst (λ (k : ℕ). D.place < k) (sym (length_full hidden w)) D.inside));
      zero = λ i l. syndrome_short c h cols hidden A.limits.width F.hides.long w i ∙ C.zero i l;
    },
  )
    where
      from_full : (w : List ℕ) → length w ≡ sent_count hidden → (j : ℕ) (D : From hidden j) → entry_of (full w) D.place ≡ entry_of w j
      from_full w long j D = sym (sent_from hidden (full w) j D) ∙ ap (λ (x : List ℕ). entry_of x j) (sent_of_full hidden w long)

  -- every code word that is 0 at the hidden places is behind one
  pub full_back : (x : List ℕ) → FullCodeWord c h s x → full (sent_of hidden x) ≡ x
  full_back x C = full_of_sent hidden x (C.long ∙ sym marked) (λ p l f. C.hidden p (subst (λ (k : ℕ). p < k) marked l) f)

  pub sent_code_word : (x : List ℕ) → FullCodeWord c h s x → CodeWord c h s (sent_of hidden x)
  sent_code_word x C =
      (short_code_word (sent_of hidden x) (length_sent hidden x)).1 (subst (FullCodeWord c h s) (sym (full_back x C)) C)

  -- ---- roles and k

  -- hiding message columns moves no other role: the roles of the sent columns are those that they had among all columns
  pub roles_stay : roles_of c h (columns_of c s) ≡ sent_of hidden (roles_of c h cols)
  unfolding roles_of columns_of
  roles_stay =
      ext_get_or 0 (roles_of c h (sent_of hidden cols)) (sent_of hidden (roles_of c h cols))
      (length-tabulate (length (sent_of hidden cols)) short_role ∙ length_sent hidden cols ∙ sym (length_sent hidden (roles_of c h cols)))
      (λ j l. at j (subst (λ (k : ℕ). j < k) (length-tabulate (length (sent_of hidden cols)) short_role) l))
    where
      short_role : ℕ → ℕ
      short_role j = cond (is_message_column c h (sent_of hidden cols) j) 1 0

      at : (j : ℕ) → j < length (sent_of hidden cols) → entry_of (roles_of c h (sent_of hidden cols)) j ≡ entry_of (sent_of hidden (roles_of c h cols)) j
      at j l =
          let D = from hidden j (subst (λ (k : ℕ). j < k) (length_sent hidden cols) l) in
          get_d_tabulate (length (sent_of hidden cols)) short_role j 0 l
          ∙ ap (λ (i : ℕ). cond (is_message_column c h (sent_of hidden cols) i) 1 0) (sym D.number)
          ∙ ap (λ (b : Bool). cond b 1 0) (role_short c h cols hidden A.limits.width F.hides D.place D.inside D.passes)
          ∙ sym (get_d_tabulate (length cols) (λ p. cond (is_message_column c h cols p) 1 0) D.place 0
          (subst (λ (k : ℕ). D.place < k) F.hides.long D.inside))
          ∙ sym (sent_from hidden (roles_of c h cols) j D)

  -- "k counts sent message columns only": the k that `roles` answers is the length of the messages
  pub k_counts_sent : dimension c h (columns_of c s) ≡ sent_dimension c h cols hidden
  unfolding columns_of
  k_counts_sent = dimension_short c h cols hidden A.limits.width F.hides

  -- ---- demand 2

  -- what encoding leaves, as a word of all places
  pub record ShortEncoded (message word : List ℕ) : Type 0 where
    pub is_code_word : FullCodeWord c h s (full word)
    -- the message stands at the sent message columns
    pub carries : sent_message c h s (full word) ≡ message
    -- "the one code word that carries it", of those that are 0 at every hidden place
    pub only : (x : List ℕ) → FullCodeWord c h s x → sent_message c h s x ≡ message → x ≡ full word

  carried_short : (w : List ℕ) → message_of c h (columns_of c s) w ≡ sent_message c h s (full w)
  unfolding columns_of sent_message
  carried_short w = message_short c h cols hidden A.limits.width F.hides w

  -- "Encoding a message gives the one code word that carries it", of k bits, k being the number of sent message columns
  pub short_demand_2 : (message word : List ℕ) → length message ≡ sent_dimension c h cols hidden → Bits message → length word ≡ places s
      → (encode_answer c h s message word ≡ Done) × ShortEncoded message (encode_after c h s message word)
  short_demand_2 message word fits bits long =
      let k = fits ∙ sym k_counts_sent in
      let (done, E) = encoded A s F message word k bits long in
      let w = encode_after c h s message word in
      let C = E.is_code_word in
      let taken : (v : List ℕ) → CodeWord c h s v → message_after c h s v message ≡ sent_message c h s (full v) =
      λ v D. (message_taken A s F v message D.long D.bits k).1 ∙ carried_short v in (
        done,
        record {
          is_code_word = (short_code_word w C.long).0 C;
          carries = sym (taken w C) ∙ (E.reads message k).1;
          only = λ x D e.
              let v = sent_of hidden x in
              let back = full_back x D in
              sym back
              ∙ ap full
              (E.only v message (sent_code_word x D) k
              (taken v (sent_code_word x D) ∙ ap (sent_message c h s) back ∙ e));
        },
      )

  -- ---- demand 3

  -- the distance of two words is that of the words of all places, over the sent ones
  pub distance_short : (r w : List ℕ) → distance (places s) r w ≡ sent_distance hidden (full r) (full w)
  unfolding distance sent_distance sent_count differs
  distance_short r w =
      count_chosen (is_sent hidden) (length hidden) (differs r w)
      ∙ count_tests (length hidden) _ _ (λ p l. at p l (is_sent hidden p) refl)
    where
      at : (p : ℕ) → p < length hidden → (b : Bool) → is_sent hidden p ≡ b
          → (is_sent hidden p && differs r w (count p (is_sent hidden))) ≡ (is_sent hidden p && differs (full r) (full w) p)
      at p l true t =
          ap₂ (λ (x y : ℕ). is_sent hidden p && not (eqb x y)) (sym (full_sent hidden r p l t)) (sym (full_sent hidden w p l t))
      at p l false f =
          ap (λ (b : Bool). b && differs r w (count p (is_sent hidden))) f ∙ ap (λ (b : Bool). b && differs (full r) (full w) p) (sym f)

  distance-full : (r x : List ℕ) → FullCodeWord c h s x → distance (places s) r (sent_of hidden x) ≡ sent_distance hidden (full r) x
  distance-full r x C = distance_short r (sent_of hidden x) ∙ ap (sent_distance hidden (full r)) (full_back x C)

  -- the first of the two ways in which repair ends
  pub record ShortNearest (received word : List ℕ) (count : ℕ) : Type 0 where
    -- "holds a code word", that is 0 at every hidden place
    pub is_code_word : FullCodeWord c h s (full word)
    -- "the count given is the number of those places", which are sent ones
    pub counted : count ≡ sent_distance hidden (full received) (full word)
    pub within : count ≤ c.t
    -- "every other code word differs from the word received in more than t places", of those that are 0 at every hidden place
    pub others : (x : List ℕ) → FullCodeWord c h s x → x ≢ full word → c.t < sent_distance hidden (full received) x

  -- every code word that is 0 at every hidden place differs from the word received in more than t sent places
  abbrev pub ShortFarFromAll : List ℕ → Type 0
  ShortFarFromAll received = (x : List ℕ) → FullCodeWord c h s x → c.t < sent_distance hidden (full received) x

  abbrev pub ShortEnds : List ℕ → List ℕ → Type 0
  ShortEnds received buffer =
      (((count : ℕ) × (repair_answer c h s received buffer ≡ Repaired count) × ShortNearest received (repair_after c h s received buffer) count)
      ⊎ ((repair_answer c h s received buffer ≡ Refused 10) × (repair_after c h s received buffer ≡ buffer)))
      × ((repair_answer c h s received buffer ≡ Refused 10) ↔ ShortFarFromAll received)

  pub short_demand_3 : (received buffer : List ℕ) → IsBits (places s) received → length buffer ≡ places s → ShortEnds received buffer
  short_demand_3 received buffer bits lent =
      let (ways, exactly) = demand_3 A s F bits buffer lent in (
        ends ways,
        (
          λ e x C. subst (λ (d : ℕ). c.t < d) (distance-full received x C) (exactly.0 e (sent_of hidden x) (sent_code_word x C)),
          λ far.
              exactly.1
              (λ w C.
              subst (λ (d : ℕ). c.t < d) (sym (distance_short received w)) (far (full w) ((short_code_word w C.long).0 C))),
        ),
      )
    where
      ends : ((count : ℕ) × (repair_answer c h s received buffer ≡ Repaired count) × Nearest c h s received (repair_after c h s received buffer) count)
          ⊎ ((repair_answer c h s received buffer ≡ Refused 10) × (repair_after c h s received buffer ≡ buffer))
          → ((count : ℕ) × (repair_answer c h s received buffer ≡ Repaired count) × ShortNearest received (repair_after c h s received buffer) count)
          ⊎ ((repair_answer c h s received buffer ≡ Refused 10) × (repair_after c h s received buffer ≡ buffer))
      ends (inr refused) = inr refused
      ends (inl (count, answer, N)) =
          let word = repair_after c h s received buffer in
          let C = N.is_code_word in
          inl (
            count,
            answer,
            record {
              is_code_word = (short_code_word word C.long).0 C;
              counted = N.counted ∙ distance_short received word;
              within = N.within;
              others = λ x D other.
                  subst (λ (d : ℕ). c.t < d) (distance-full received x D)
                  (N.others (sent_of hidden x) (sent_code_word x D) (λ same. other (sym (full_back x D) ∙ ap full same)));
            },
          )
