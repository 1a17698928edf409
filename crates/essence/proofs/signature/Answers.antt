-- `signature` meets its contract: 1 to 3 refuse, or 17 does, or the signature is stored.
use mathlib.Core.Path.{◌≡◌, sym, subst}
use mathlib.Core.List.{List}
use Prim.Native.Nat.{ℕ}
use lib.ListN.{length, replicate, take}
use lib.Seq.{length-take-le}
use Rattle.refusals.specs.Ending.{first_refuses, second_decides}
use Rattle.refusals.specs.Rules.{fault}
use Rattle.refusals.specs.Outcome.{Done, Refused, tested}
use Rattle.refusals.specs.Testing.{tested_none, tested_due, first_passed_on}
use Rattle.slices.specs.Lengths.{longest}
use Rattle.essence.specs.Answers.{shape_rules, value_rules, signature_fault, signature_answer, signature_after}
use Rattle.essence.specs.Shape.{Shape}
use Rattle.essence.proofs.Shaped.{shaped, entries_short}
use Rattle.essence.proofs.signature.Goals as goal

-- the array of which a part is lent
abbrev zeros : List ℕ
zeros = replicate longest 0

-- where 1 to 3 have passed
module _ (m : ℕ) (v out : List ℕ) (is : Done ≡ tested (fault (shape_rules m v (length out) (length v)))) where
  sizes : Shape m v (length out) (length v)
  sizes = shaped m v (length out) (length v) (tested_none is)

  -- the part has as many entries as the buffer
  lent : length (take (length out) zeros) ≡ length out
  lent = length-take-le (length out) zeros (entries_short sizes)

pub returns-in_err-check_shape : goal.returns-in_err-check_shape
unfolding signature_answer signature_after signature_fault value_rules
returns-in_err-check_shape c =
    let g = c.args in
    let is = c.in_err-check_shape.ensures in
    let rules = shape_rules g.m g.essence.now (length g.out.now) (length g.essence.now) in
    let (ne, due) = tested_due is in
    record {
      value = first_passed_on rules _ _ _ is c.from_residual.ensures.1;
      out_after = first_refuses rules _ (λ k. g.out.now) _ due ne;
    }

pub slice_bounds-inverses-end : goal.slice_bounds-inverses-end
slice_bounds-inverses-end c = entries_short (sizes c.args.m c.args.essence.now c.args.out.now c.in_ok-check_shape.ensures)

pub slice_bounds-convert-end : goal.slice_bounds-convert-end
slice_bounds-convert-end c = sym (lent c.args.m c.args.essence.now c.args.out.now c.in_ok-check_shape.ensures)

pub convert-requires : goal.convert-requires
convert-requires c =
    let m = c.args.m in
    let v = c.args.essence.now in
    let out = c.args.out.now in
    let is = c.in_ok-check_shape.ensures in
    let long = sym (lent m v out is) in
    (subst (λ (k : ℕ). Shape m v k (length v)) long (sizes m v out is), long)

pub returns : goal.returns
unfolding signature_answer signature_after signature_fault value_rules shape_rules
returns c =
    let g = c.args in
    let call = c.convert.ensures in
    let none = tested_none c.in_ok-check_shape.ensures in
    let rules = shape_rules g.m g.essence.now (length g.out.now) (length g.essence.now) in
    record {
      value = second_decides rules _ Refused Done tt none call.outcome;
      out_after = second_decides rules _ (λ k. g.out.now) _ tt none call.buffer;
    }
