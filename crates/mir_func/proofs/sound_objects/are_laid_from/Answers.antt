use Rattle.std.proofs.Common.{◌≡◌, ◌↔◌, ◌+◌, ◌≤◌, ◌∷◌, ℕ, List, subst, sym, arith}
use Rattle.std.specs.Prelude.{All}
use Rattle.std.proofs.lemmas.List.Elements.{All-head, All-tail}
use Rattle.mir_func.specs.declared.object.Object.{Object}
use Rattle.mir_func.specs.Sound.{IsSoundObject}
use Rattle.mir_func.specs.Objects.{AreLaidFrom, IsPlaced, end_past}
use Rattle.mir_func.proofs.Laid.{alignment_is_few, past_low, placed_low, laid_turn}
use Rattle.mir_func.proofs.sound_objects.are_laid_from.Goals as goal

pub end_past-end-requires : goal.end_past-end-requires
end_past-end-requires c = record {
  fits = λ own.
      let block = c.args.block in
      let o = c.in-Some.o.now in
      let tail = c.in-Some.tail.now in
      let rest : c.loop-o.rest.now ≡ o ∷ tail = c.in-Some.ensures.cases.0 in
      let each : All IsSoundObject (o ∷ tail) = subst (λ (os : List Object). All IsSoundObject os) rest c.loop-o.invariant.1 in
      let sound = All-head IsSoundObject o tail each in
      let few = alignment_is_few o.align sound.aligned in
      let at : IsPlaced block c.loop-o.end o o.fixed_offset = c.is_placed.ensures.0 c.if-not-is_placed.false in
      omega (arith, placed_low block c.loop-o.end o o.fixed_offset few.0 few.1 sound.size at own, c.requires.small, c.loop-o.invariant.2);
}

pub loop-o-preserved : goal.loop-o-preserved
loop-o-preserved c =
    let block = c.args.block in
    let o = c.in-Some.o.now in
    let tail = c.in-Some.tail.now in
    let rest : c.loop-o.rest.now ≡ o ∷ tail = c.in-Some.ensures.cases.0 in
    let count = c.in-Some.ensures.cases.1 in
    let each : All IsSoundObject (o ∷ tail) = subst (λ (os : List Object). All IsSoundObject os) rest c.loop-o.invariant.1 in
    let laid : AreLaidFrom block c.loop-o.end (o ∷ tail) ↔ AreLaidFrom block block c.args.objects.now =
    subst (λ (os : List Object). AreLaidFrom block c.loop-o.end os ↔ AreLaidFrom block block c.args.objects.now) rest c.loop-o.invariant.0 in
    let sound = All-head IsSoundObject o tail each in
    let few = alignment_is_few o.align sound.aligned in
    let at : IsPlaced block c.loop-o.end o o.fixed_offset = c.is_placed.ensures.0 c.if-not-is_placed.false in
    let past : c.end_past-end.result ≡ end_past c.loop-o.end o o.fixed_offset = c.end_past-end.ensures in
    let low : end_past c.loop-o.end o o.fixed_offset ≤ c.loop-o.end + 2147483648 =
    past_low block c.loop-o.end o o.fixed_offset few.0 few.1 sound.size at in (
      subst (λ (n : ℕ). AreLaidFrom block n tail ↔ AreLaidFrom block block c.args.objects.now) (sym past)
          (laid_turn block c.loop-o.end o tail (AreLaidFrom block block c.args.objects.now) laid at),
      All-tail IsSoundObject o tail each,
      omega (arith, past, low, count, c.loop-o.invariant.2),
    )
