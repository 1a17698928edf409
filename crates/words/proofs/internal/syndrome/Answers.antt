-- `internal::syndrome` meets its contract: 8, or the sums.
use mathlib.Core.Path.{refl, sym, ◌∙◌}
use native.Mathlib.Omega.{arith}
use Rattle.algebra.specs.Flags.{found_false, found_true}
use Rattle.refusals.specs.Ending.{ended_refused, ended_done}
use Rattle.refusals.specs.RuleLaws.{fault_here, fault_none}
use Rattle.slices.specs.BitLaws.{received_bits}
use Rattle.words.specs.Answers.{bit_rules}
use Rattle.parity.specs.Word.{syndrome_of}
use Rattle.parity.proofs.OfCode.{summed, rows_reach, sums_are}
use Rattle.words.proofs.internal.syndrome.Goals as goal

pub returns-then-not-all_bits : goal.returns-then-not-all_bits
unfolding bit_rules
returns-then-not-all_bits c =
    let a = c.args in
    ended_refused {k = 8} (bit_rules a.word.now) a.out.now _ (sym (fault_here 8 _ (found_false c.all_bits.ensures c.if-not-all_bits.true)))
    (λ z. omega arith)

pub syndrome-requires : goal.syndrome-requires
syndrome-requires c =
    let (O, long, t_long) = c.requires in (
      summed O (received_bits long (found_true c.all_bits.ensures c.if-not-all_bits.false)),
      rows_reach O t_long,
    )

pub returns : goal.returns
unfolding bit_rules
returns c =
    let a = c.args in
    let (O, long, t_long) = c.requires in
    ended_done {k = 0} (bit_rules a.word.now) a.out.now (syndrome_of a.c a.h.now a.cols.now a.word.now)
    (sym (fault_none _ (found_true c.all_bits.ensures c.if-not-all_bits.false, tt))) refl
    (c.syndrome.ensures ∙ sums_are O a.word.now t_long)
