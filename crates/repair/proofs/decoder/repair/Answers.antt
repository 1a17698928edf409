-- `decoder::repair` meets its contract: the word that was decoded is copied, or nothing is.
use mathlib.Core.Path.{sym, ◌∙◌, subst}
use native.Mathlib.Omega.{arith}
use Rattle.slices.proofs.Room.{length_lent, filled}
use Rattle.parity.specs.Selected.{columns_short}
use Rattle.repair.specs.declared.Recovery.{Recovery}
use Rattle.repair.specs.Decoding.{Decoded}
use Rattle.parity.proofs.OfCode.{on_columns}
use Rattle.repair.proofs.Decoding.{repaired_copied, refused_left}
use Rattle.repair.proofs.decoder.repair.Goals as goal

pub slice_bounds-word-end : goal.slice_bounds-word-end
slice_bounds-word-end c = omega (arith, columns_short (on_columns c.args.code.now))

pub slice_bounds-decode-end : goal.slice_bounds-decode-end
slice_bounds-decode-end c = sym (length_lent (columns_short (on_columns c.args.code.now)))

pub decode-recovery-requires : goal.decode-recovery-requires
decode-recovery-requires c =
    (c.requires.0, length_lent (columns_short (on_columns c.args.code.now)))

pub slice_bounds-word-end-in-Repaired : goal.slice_bounds-word-end-in-Repaired
slice_bounds-word-end-in-Repaired c = (filled (columns_short (on_columns c.args.code.now)) c.decode-recovery.auto.word).fits

pub slice_bounds-copy_from_slice-end : goal.slice_bounds-copy_from_slice-end
slice_bounds-copy_from_slice-end c = sym (filled (columns_short (on_columns c.args.code.now)) c.decode-recovery.auto.word).length_front

pub copy_from_slice-requires : goal.copy_from_slice-requires
copy_from_slice-requires c =
    c.requires.1 ∙ sym (filled (columns_short (on_columns c.args.code.now)) c.decode-recovery.auto.word).length_front

pub returns-in-Repaired : goal.returns-in-Repaired
returns-in-Repaired c =
    let a = c.args in
    let call = c.decode-recovery in
    let D =
    subst (λ (r : Recovery). Decoded a.code.now.c a.code.now.h.now a.code.now.cols.now a.received.now r call.new.word)
    c.in-Repaired.is call.ensures in
    let copied = c.copy_from_slice.ensures.after ∙ (filled (columns_short (on_columns c.args.code.now)) call.auto.word).front in
    record { value = call.ensures.answer_is; repaired_after = repaired_copied D a.repaired.now copied }

pub returns-in_default : goal.returns-in_default
returns-in_default c =
    let a = c.args in
    let call = c.decode-recovery in
    record {
      value = call.ensures.answer_is;
      repaired_after = refused_left (subst (λ (r : Recovery). Decoded a.code.now.c a.code.now.h.now a.code.now.cols.now a.received.now r call.new.word)
          c.in_default.is call.ensures) a.repaired.now;
    }
