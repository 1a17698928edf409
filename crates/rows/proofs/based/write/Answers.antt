-- `based::write` meets its contract.
use mathlib.Core.Path.{sym, subst}
use mathlib.Core.List.{List}
use Prim.Native.Nat.{ℕ, ◌≤◌}
use lib.ListN.{length}
use Rattle.slices.specs.Bits.{Bits}
use Rattle.basis.specs.Table.{free_count, Carried}
use Rattle.gears.specs.Messages.{length_message, message_bits}
use Rattle.rows.proofs.based.write.Goals as goal

pub carry-requires : goal.carry-requires
carry-requires c =
    let a = c.args in
    let e = c.place_row.ensures in
    let k = length a.message.now in
    record {
      form = c.requires.0;
      leads_in_bounds = (
        subst (λ (x : List ℕ). free_count (length a.word.now) a.leads.now ≤ length x) (sym e)
            (subst (λ (i : ℕ). free_count (length a.word.now) a.leads.now ≤ i) (sym (length_message k a.gear a.lamp)) c.requires.1),
        subst Bits (sym e) (message_bits k a.gear a.lamp),
      );
    }

pub returns : goal.returns
returns c =
    let a = c.args in
    let carry = c.carry in
    subst (λ (x : List ℕ). Carried (length a.word.now) a.rows.now a.leads.now x carry.new.word)
    c.place_row.ensures
    carry.ensures
