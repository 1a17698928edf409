-- `take_out` meets its contract. The loop's invariant: the message begins with the entries at the free places passed, `taken` of them, and the rest
-- of it is as it was.
use mathlib.Core.Path.{refl, sym, ap, ◌∙◌}
use native.Mathlib.Nat.{le_of_eq}
use native.Mathlib.Omega.{arith}
use lib.ListN.{length, set, length-append}
use Rattle.std.proofs.lemmas.Slice.Zip.{zip_turn, zip_end}
use Rattle.algebra.specs.Choosing.{choosing_start, choosing_length, choosing_index, choosing_passed_over, choosing_taken, choosing_full}
use Rattle.algebra.specs.Lists.{entry_of}
use Rattle.basis.specs.Table.{free_at}
use Rattle.systematic.proofs.Places.{led, free}
use Rattle.systematic.proofs.take_out.Goals as goal

pub loop-entry-init : goal.loop-entry-init
loop-entry-init c =
    let a = c.args in
    choosing_start (free_at a.leads.now) (entry_of a.word.now) (length a.word.now) a.message.now (le_of_eq (sym c.requires.1))

pub bounds-message-taken : goal.bounds-message-taken
bounds-message-taken c =
    let (short, within, entry, lead) =
    zip_turn c.args.word.now c.args.leads.now _ _ _ c.next.new.self _ (cc) (cc) c.loop-entry.yielded_by _ c.in-Some.is c.next.ensures.steps in
    choosing_index c.loop-entry.invariant short (free _ _ (λ e. c.if-lead-ne1.true (lead 0 ∙ e)))

pub overflow_add-taken : goal.overflow_add-taken
overflow_add-taken c = omega (arith, bounds-message-taken c, choosing_length c.loop-entry.invariant)

pub loop-entry-preserved-then-lead-ne1 : goal.loop-entry-preserved-then-lead-ne1
loop-entry-preserved-then-lead-ne1 c =
    let (short, within, entry, lead) =
    zip_turn c.args.word.now c.args.leads.now _ _ _ c.next.new.self _ (cc) (cc) c.loop-entry.yielded_by _ c.in-Some.is c.next.ensures.steps in
    simp length-append
    (choosing_taken c.loop-entry.invariant short (free _ _ (λ e. c.if-lead-ne1.true (lead 0 ∙ e)))
    (ap (set c.loop-entry.message c.loop-entry.taken) (entry 0)) refl)

pub loop-entry-preserved : goal.loop-entry-preserved
loop-entry-preserved c =
    let (short, within, entry, lead) =
    zip_turn c.args.word.now c.args.leads.now _ _ _ c.next.new.self _ (cc) (cc) c.loop-entry.yielded_by _ c.in-Some.is c.next.ensures.steps in
    simp length-append
    (choosing_passed_over c.loop-entry.invariant short (led _ _ (sym (lead 0) ∙ c.if-lead-ne1.false)) refl refl)

pub returns : goal.returns
returns c =
    let past = zip_end c.args.word.now c.args.leads.now _ _ _ c.next.new.self _ (cc) (cc) c.loop-entry.yielded_by c.in-None.is c.next.ensures.steps in
    choosing_full c.loop-entry.invariant (omega arith) c.requires.1
