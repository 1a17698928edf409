-- `decoder::decode` meets its contract: 8, a code word as its own repair, or the candidate.
use mathlib.Core.Path.{sym, ◌∙◌}
use mathlib.Core.Logic.{inl, inr}
use native.Mathlib.Omega.{arith}
use Rattle.algebra.specs.Flags.{found_false, found_true}
use Rattle.slices.specs.BitLaws.{received_bits}
use Rattle.parity.specs.Selected.{columns_short}
use Rattle.parity.proofs.OfCode.{on_columns}
use Rattle.repair.proofs.Decoding.{no_word, code_word_decoded, candidate_refused, candidate_decoded, candidate_bits, candidate_few}
use Rattle.repair.proofs.decoder.decode.Goals as goal

pub returns-then-not-all_bits : goal.returns-then-not-all_bits
returns-then-not-all_bits c =
    no_word (on_columns c.args.code.now) c.args.received.now c.args.word.now (found_false c.all_bits.ensures c.if-not-all_bits.true)

pub is_code_word-requires : goal.is_code_word-requires
is_code_word-requires c =
    (on_columns c.args.code.now, received_bits c.requires.0 (found_true c.all_bits.ensures c.if-not-all_bits.false))

pub copy-requires : goal.copy-requires
copy-requires c =
    c.requires.1
    ∙ sym c.requires.0

pub returns-then-is_code_word : goal.returns-then-is_code_word
returns-then-is_code_word c =
    let bits =
    received_bits c.requires.0 (found_true c.all_bits.ensures
    c.if-not-all_bits.false) in
    code_word_decoded (on_columns c.args.code.now) c.args.received.now bits c.copy.ensures
    (sym c.is_code_word.ensures ∙ c.if-is_code_word.true)

pub candidate-turned-requires : goal.candidate-turned-requires
candidate-turned-requires c =
    let bits = received_bits c.requires.0 (found_true c.all_bits.ensures c.if-not-all_bits.false) in
    (bits, c.requires.1)

pub overflow_cast-turned : goal.overflow_cast-turned
overflow_cast-turned c =
    let bits =
    received_bits c.requires.0 (found_true c.all_bits.ensures
    c.if-not-all_bits.false) in
    record {
      fits = omega (
        arith,
        candidate_few (on_columns c.args.code.now) c.args.received.now bits c.candidate-turned.ensures,
        columns_short
            (on_columns c.args.code.now),
      );
    }

pub returns-then-code-turned : goal.returns-then-code-turned
returns-then-code-turned c =
    let bits =
    received_bits c.requires.0 (found_true c.all_bits.ensures
    c.if-not-all_bits.false) in
    candidate_refused (on_columns c.args.code.now) c.args.received.now bits c.candidate-turned.ensures (inr c.if-code-turned.true)

pub is_code_word-requires-2 : goal.is_code_word-requires-2
is_code_word-requires-2 c =
    let bits =
    received_bits c.requires.0 (found_true c.all_bits.ensures
    c.if-not-all_bits.false) in
    (on_columns c.args.code.now, candidate_bits (on_columns c.args.code.now) c.args.received.now bits c.candidate-turned.ensures)

pub returns-then-not-is_code_word : goal.returns-then-not-is_code_word
returns-then-not-is_code_word c =
    let bits =
    received_bits c.requires.0 (found_true
    c.all_bits.ensures
    c.if-not-all_bits.false) in
    candidate_refused (on_columns c.args.code.now) c.args.received.now bits c.candidate-turned.ensures
    (inl (found_false c.is_code_word-2.ensures c.if-not-is_code_word.true))

pub returns : goal.returns
returns c =
    let bits =
    received_bits c.requires.0 (found_true
    c.all_bits.ensures
    c.if-not-all_bits.false) in
    candidate_decoded (on_columns c.args.code.now) c.args.received.now bits c.candidate-turned.ensures
    (found_true c.is_code_word-2.ensures c.if-not-is_code_word.false)
    c.if-code-turned.false
