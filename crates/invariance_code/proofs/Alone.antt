-- Functions with alike code have alike machine code.
use Rattle.std.proofs.Common.{◌≡◌, List, [], ◌∷◌, map, refl, sym, ap, ◌∙◌}
use Rattle.mir_func.specs.declared.block.Block.{Block}
use Rattle.mir_func.specs.declared.position.Origin.{Origin}
use Rattle.mir_func.specs.declared.position.Origin.TheVariants.{Kept, Before}
use Rattle.mir_func.specs.Function.{FramedFunction}
use Rattle.emit_code.specs.Listed.{Line, lines_of}
use Rattle.emit_code.specs.BranchRelaxation.{IsSettled}
use Rattle.emit_code.specs.Rule.{Layout, entries_of, words_of, added_before}
use Rattle.pass_trait.specs.Code.{originless_origin}
use Rattle.invariance_code.specs.Alike.{stripped_framed}
use Rattle.invariance_code.specs.Alone.{AreCodedSame, CodeHasWords, AlikeCodeIsCodedAlike, SameCodeIsCodedSame}
use Rattle.invariance_code.proofs.Drops.{DropsEach, stripped_each, originless_each}
use Rattle.invariance_code.proofs.Settled.{lay, long_alone, settled_alone, same_layout}
use Rattle.invariance_code.proofs.Coded.{entry_seen, line_seen, Leaves, CodedBy, coded_alone}

-- ---- what is left of origins

all_left : Leaves (λ o. o)
all_left = record { twice = λ o. refl; before = λ o. refl }

kind_left : Leaves originless_origin
kind_left = record { twice = twice; before = before }
  where
    twice : (o : Origin) → originless_origin (originless_origin o) ≡ originless_origin o
    twice (Kept p) = refl
    twice (Before p) = refl

    before : (o : Origin) → originless_origin (added_before (originless_origin o)) ≡ originless_origin (added_before o)
    before (Kept p) = refl
    before (Before p) = refl

-- ---- two layouts

-- if the code alone of both is the same, they have the same machine code
module _ {w : Origin → Origin} (leaves : Leaves w) (l m : Layout) {bs cs : List Block} (ds : DropsEach w l.framed.blocks bs)
    (es : DropsEach w m.framed.blocks cs) where
  meet : ◌≡◌ {A = FramedFunction} (record l.framed { blocks = bs }) (record m.framed { blocks = cs }) → l.base ≡ m.base → IsSettled l → IsSettled m →
      CodedBy w l m
  meet framed base settled settled' =
      let l' = lay (record l.framed { blocks = bs }) l.base (long_alone l.framed l.base ds l.long) in
      let m' = lay (record m.framed { blocks = cs }) m.base (long_alone m.framed m.base es m.long) in
      let one : l' ≡ m' = same_layout l' m' framed base (settled_alone l.framed l.base ds l.long settled) (settled_alone m.framed m.base es m.long settled') in
      let of = coded_alone leaves l.framed l.base l.long ds in
      let others = coded_alone leaves m.framed m.base m.long es in
      record {
        words = of.words ∙ ap words_of one ∙ sym others.words;
        entries = of.entries ∙ ap (λ (x : Layout). map (entry_seen w) (entries_of x)) one ∙ sym others.entries;
        lines = of.lines ∙ ap (λ (x : Layout). map (line_seen w) (lines_of x)) one ∙ sym others.lines;
      }

lines_left : (xs : List Line) → map (line_seen (λ o. o)) xs ≡ xs
lines_left [] = refl
lines_left (x ∷ xs) = ap (λ (t : List Line). x ∷ t) (lines_left xs)

same_of : (l m : Layout) → CodedBy (λ o. o) l m → AreCodedSame l m
same_of l m is = record {
  words = is.words;
  entries = is.entries;
  lines = sym (lines_left (lines_of l)) ∙ is.lines ∙ lines_left (lines_of m);
}

-- ---- the laws

pub code_has_words : CodeHasWords
code_has_words l settled =
    let ds = stripped_each l.framed.blocks in
    let alone = lay (stripped_framed l.framed) l.base (long_alone l.framed l.base ds l.long) in
    record {
      long = alone.long;
      settled = settled_alone l.framed l.base ds l.long settled;
      coded = same_of l alone (coded_alone all_left l.framed l.base l.long ds);
    }

pub alike_code : AlikeCodeIsCodedAlike
alike_code l m settled settled' base alike =
    let is = meet kind_left l m (originless_each l.framed.blocks) (originless_each m.framed.blocks) alike base settled settled' in
    record { words = is.words; entries = is.entries; lines = is.lines }

pub same_code : SameCodeIsCodedSame
same_code l m settled settled' base same =
    same_of l m (meet all_left l m (stripped_each l.framed.blocks) (stripped_each m.framed.blocks) same base settled settled')
