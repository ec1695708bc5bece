-- Functions with alike code have the same bytes of `.text`.
use Rattle.std.proofs.Common.{◌≡◌, ℕ, ◌+◌, ◌*◌, List, [], ◌∷◌, ◌++◌, length, sym, ap, subst, ◌∙◌}
use Rattle.std.specs.List.{flat_map}
use Rattle.std.specs.Int.{w32, to_le_bytes}
use Rattle.mir_func.specs.Function.{Function, FramedFunction}
use Rattle.emit_code.specs.Rule.{Layout, words_of}
use Rattle.frame_rule.specs.Rule.{framed_of}
use Rattle.compile_theorem.specs.Compiled.{bytes_of}
use Rattle.invariance_code.specs.Alike.{HaveAlikeCode, HaveSameCode, AreFramedAlike, AreFramedSame, stripped_framed}
use Rattle.invariance_code.proofs.Strips.{frames_strip, frames_same}
use Rattle.invariance_code.proofs.Alike.{frames_alike}
use Rattle.invariance_code.specs.Alone.{AreCodedAlike, AreCodedSame}
use Rattle.invariance_code.proofs.Alone.{code_has_words, alike_code, same_code}
use Rattle.theorem_invariance.specs.Text.{IsLaid, IsCodedAlone, AlikeIsCodedAlike, SameIsCodedSame, AreLaid, OneByOne}
use Rattle.theorem_invariance.specs.Text.{HasTextAlone, AlikeHasSameText, SameHasSameText}

-- ---- one function

pub coded_alone : IsCodedAlone
coded_alone f base l is =
    let h = code_has_words l is.settled in
    record {
      layout = record { framed = stripped_framed l.framed; base = l.base; long = h.long };
      laid = record { framed = ap stripped_framed is.framed ∙ sym (frames_strip f); from = is.from; settled = h.settled };
      coded = h.coded;
    }

pub alike_layouts : AlikeIsCodedAlike
alike_layouts f g base l m is others alike =
    let framed = subst (λ (x : FramedFunction). AreFramedAlike x m.framed) (sym is.framed)
    (subst (λ (x : FramedFunction). AreFramedAlike (framed_of f) x) (sym others.framed) (frames_alike f g alike)) in
    alike_code l m is.settled others.settled (is.from ∙ sym others.from) framed

pub same_layouts : SameIsCodedSame
same_layouts f g base l m is others same =
    let framed = subst (λ (x : FramedFunction). AreFramedSame x m.framed) (sym is.framed)
    (subst (λ (x : FramedFunction). AreFramedSame (framed_of f) x) (sym others.framed) (frames_same f g same)) in
    same_code l m is.settled others.settled (is.from ∙ sym others.from) framed

-- ---- functions one after the other

-- the end of a function, where another with equal words begins at the same address
ends_meet : (l m : Layout) → l.base ≡ m.base → words_of l ≡ words_of m → l.base + 4 * length (words_of l) ≡ m.base + 4 * length (words_of m)
ends_meet l m base words = λ i. base i + 4 * length (words i)

pub text_alone : HasTextAlone
text_alone [] base text [] is = record { layouts = []; laid = is; coded = tt }
text_alone [] base text (l ∷ ls) is = absurd is
text_alone (f ∷ fs) base text [] is = absurd is
text_alone (f ∷ fs) base text (l ∷ ls) is =
    let first = coded_alone f base l is.0 in
    let m = first.layout in
    let words = first.coded.words in
    let end = ends_meet l m (is.0.from ∙ sym first.laid.from) words in
    let rest = text_alone fs (m.base + 4 * length (words_of m)) is.1 ls (subst (λ (a : ℕ). AreLaid a is.1 fs ls) end is.3) in
    let bytes : bytes_of l ≡ bytes_of m = ap (flat_map (to_le_bytes w32)) words in
    record {
      layouts = m ∷ rest.layouts;
      laid = (first.laid, is.1, is.2 ∙ ap (λ (t : List ℕ). t ++ is.1) bytes, rest.laid);
      coded = (first.coded, rest.coded);
    }

-- what holds of both layouts of two functions, and says that their words are equal, holds one by one, and their `.text` is the same
module _ (R : Function → Function → Type 0) (S : Layout → Layout → Type 0) (words : (l m : Layout) → S l m → words_of l ≡ words_of m)
    (step : (f g : Function) (base : ℕ) (l m : Layout) → IsLaid f base l → IsLaid g base m → R f g → S l m) where
  in_turn : (fs gs : List Function) (base : ℕ) (text other : List ℕ) (ls ms : List Layout) → OneByOne R fs gs →
      AreLaid base text fs ls → AreLaid base other gs ms → (text ≡ other) × OneByOne S ls ms
  in_turn [] [] base text other [] [] each is others = (is ∙ sym others, tt)
  in_turn [] [] base text other (l ∷ ls) ms each is others = absurd is
  in_turn [] [] base text other [] (m ∷ ms) each is others = absurd others
  in_turn [] (g ∷ gs) base text other ls ms each is others = absurd each
  in_turn (f ∷ fs) [] base text other ls ms each is others = absurd each
  in_turn (f ∷ fs) (g ∷ gs) base text other [] ms each is others = absurd is
  in_turn (f ∷ fs) (g ∷ gs) base text other (l ∷ ls) [] each is others = absurd others
  in_turn (f ∷ fs) (g ∷ gs) base text other (l ∷ ls) (m ∷ ms) each is others =
      let first = step f g base l m is.0 others.0 each.0 in
      let same = words l m first in
      let end = ends_meet l m (is.0.from ∙ sym others.0.from) same in
      let here = subst (λ (a : ℕ). AreLaid a is.1 fs ls) end is.3 in
      let rest = in_turn fs gs (m.base + 4 * length (words_of m)) is.1 others.1 ls ms each.1 here others.3 in
      let bytes : bytes_of l ≡ bytes_of m = ap (flat_map (to_le_bytes w32)) same in
      let more = rest.0 in
      (is.2 ∙ (λ i. bytes i ++ more i) ∙ sym others.2, (first, rest.1))

pub alike_text : AlikeHasSameText
alike_text = in_turn HaveAlikeCode AreCodedAlike (λ l m is. is.words) alike_layouts

pub same_text : SameHasSameText
same_text = in_turn HaveSameCode AreCodedSame (λ l m is. is.words) same_layouts
