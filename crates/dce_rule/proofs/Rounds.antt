-- The rule for code of rounds: of one function it makes one, and it sees code alone.
use Rattle.std.proofs.Common.{◌≡◌, ◌↔◌, ℕ, List, [], ◌∷◌, map, Bool, true, false, cond, refl, sym, ap, ◌∙◌, subst}
use Rattle.rv64_instr.specs.declared.place.Place.{Place}
use Rattle.mir_func.specs.declared.block.Block.{Block}
use Rattle.mir_func.specs.declared.item.Item.{Item}
use Rattle.mir_func.specs.declared.item.ItemKind.{ItemKind}
use Rattle.mir_func.specs.declared.item.ItemKind.TheVariants.{Code, Mark, Phi}
use Rattle.mir_func.specs.Function.{Function}
use Rattle.sem_mir.specs.Align.{is_code}
use Rattle.pass_trait.specs.Code.{HasOneResult, SeesCodeAlone, AreAlike, originless_item, originless_block, originless}
use Rattle.dce_rule.specs.Dead.{Places, Ends, is_dead, needed_before, needed_at, without_dead}
use Rattle.dce_rule.specs.Dead.{thinned_block, thinned, LiveAtEnd, IsRound, IsThinnedOut, over, again}
use Rattle.dce_rule.specs.Same.{SameItems, none, both, first, second, SameBlocks, no_blocks, one_more}
use Rattle.dce_rule.proofs.Same.{ends_same}

-- ---- the same places at blocks' ends

same_test : {P Q : Type 0} (a b : Bool) → (P ↔ Q) → ((a ≡ true) ↔ P) → ((b ≡ true) ↔ Q) → a ≡ b
same_test true true pq h k = refl
same_test false false pq h k = refl
same_test true false pq h k = sym (k.1 (pq.0 (h.0 refl)))
same_test false true pq h k = h.1 (pq.1 (k.0 refl))

pub ends_one : (f g : Function) → SameBlocks f.blocks g.blocks → (ends ends' : Ends) → ((b : ℕ) (x : Place) → (ends b x ≡ true) ↔ LiveAtEnd f b x) →
    ((b : ℕ) (x : Place) → (ends' b x ≡ true) ↔ LiveAtEnd g b x) → ends ≡ ends'
ends_one f g same ends ends' live live' =
    let e : (b : ℕ) (x : Place) → ends b x ≡ ends' b x = λ b x. same_test (ends b x) (ends' b x) (ends_same f g same b x) (live b x) (live' b x) in
    λ i b x. e b x i

items_self : (xs : List Item) → SameItems xs xs
items_self [] = none
items_self (x ∷ xs) = by_kind x.kind refl (items_self xs) where
  by_kind : (k : ItemKind) → x.kind ≡ k → SameItems xs xs → SameItems (x ∷ xs) (x ∷ xs)
  by_kind (Code i n) e more = both x x i n n e e more
  by_kind (Mark v m) e more = first x (ap is_code e) (second x (ap is_code e) more)
  by_kind (Phi l n) e more = first x (ap is_code e) (second x (ap is_code e) more)

pub blocks_self : (bs : List Block) → SameBlocks bs bs
blocks_self [] = no_blocks
blocks_self (b ∷ bs) = one_more b b refl (items_self b.items) (blocks_self bs)

-- ---- one result

pub one_round : HasOneResult IsRound
one_round f g h r s =
    let e = ends_one f f (blocks_self f.blocks) r.ends s.ends r.live s.live in
    r.thins ∙ ap (λ (ends : Ends). thinned ends f) e ∙ sym s.thins

-- where a round takes nothing out, no later one does
stays_one : (f f' h : Function) → f' ≡ f → IsRound f f → IsThinnedOut f' h → h ≡ f
stays_one f f' h e r (over s) = e
stays_one f f' h e r (again g s more) =
    let r' : IsRound f' f' = subst (λ (z : Function). IsRound z z) (sym e) r in
    stays_one f g h (one_round f' g f' s r' ∙ e) r more

one_from : (f f' g h : Function) → f' ≡ f → IsThinnedOut f g → IsThinnedOut f' h → g ≡ h
one_from f f' g h e (over r) t = sym (stays_one f f' h e r t)
one_from f f' g h e (again g1 r1 more) (over r) = stays_one f' f g (sym e) r (again g1 r1 more)
one_from f f' g h e (again g1 r1 more) (again g2 r2 more2) =
    one_from g1 g2 g h (one_round f' g2 g1 r2 (subst (λ (z : Function). IsRound z g1) (sym e) r1)) more more2

pub one_thinned_out : HasOneResult IsThinnedOut
one_thinned_out f g h a b = one_from f f g h refl a b

-- ---- code alone is seen

alike_items : (xs ys : List Item) → map originless_item xs ≡ map originless_item ys → SameItems xs ys
alike_items [] [] e = none
alike_items [] (y ∷ ys) e = cc
alike_items (x ∷ xs) [] e = cc
alike_items (x ∷ xs) (y ∷ ys) e =
    let head : originless_item x ≡ originless_item y = cc in
    let tail : map originless_item xs ≡ map originless_item ys = cc in
    by_kind x.kind refl (ap (λ (z : Item). z.kind) head) (alike_items xs ys tail) where
      by_kind : (k : ItemKind) → x.kind ≡ k → x.kind ≡ y.kind → SameItems xs ys → SameItems (x ∷ xs) (y ∷ ys)
      by_kind (Code i n) e same more = both x y i n n e (sym same ∙ e) more
      by_kind (Mark v m) e same more = first x (ap is_code e) (second y (ap is_code (sym same ∙ e)) more)
      by_kind (Phi l n) e same more = first x (ap is_code e) (second y (ap is_code (sym same ∙ e)) more)

alike_blocks : (bs cs : List Block) → map originless_block bs ≡ map originless_block cs → SameBlocks bs cs
alike_blocks [] [] e = no_blocks
alike_blocks [] (c ∷ cs) e = cc
alike_blocks (b ∷ bs) [] e = cc
alike_blocks (b ∷ bs) (c ∷ cs) e =
    let head : originless_block b ≡ originless_block c = cc in
    let tail : map originless_block bs ≡ map originless_block cs = cc in
    one_more b c (ap (λ (z : Block). z.id) head) (alike_items b.items c.items (ap (λ (z : Block). z.items) head)) (alike_blocks bs cs tail)

needed_originless : (xs : List Item) (needed : Places) → needed_at (map originless_item xs) needed ≡ needed_at xs needed
needed_originless [] needed = refl
needed_originless (x ∷ xs) needed = ap (needed_before x.kind) (needed_originless xs needed)

items_originless : (xs : List Item) (needed : Places) → map originless_item (without_dead xs needed) ≡ without_dead (map originless_item xs) needed
items_originless [] needed = refl
items_originless (x ∷ xs) needed =
    by_test (is_dead x.kind (needed_at xs needed)) (items_originless xs needed) ∙
    ap (λ (z : Places). cond (is_dead x.kind z) (without_dead (map originless_item xs) needed) (originless_item x ∷ without_dead
    (map originless_item xs) needed))
    (sym (needed_originless xs needed)) where
      by_test : (z : Bool) → map originless_item (without_dead xs needed) ≡ without_dead (map originless_item xs) needed →
          map originless_item (cond z (without_dead xs needed) (x ∷ without_dead xs needed)) ≡
          cond z (without_dead (map originless_item xs) needed) (originless_item x ∷ without_dead (map originless_item xs) needed)
      by_test true h = h
      by_test false h = ap (λ (ys : List Item). originless_item x ∷ ys) h

blocks_originless : (ends : Ends) (bs : List Block) → map originless_block (map (thinned_block ends) bs) ≡ map (thinned_block ends) (map originless_block bs)
blocks_originless ends [] = refl
blocks_originless ends (b ∷ bs) =
    let e = items_originless b.items (ends b.id) in
    let es = blocks_originless ends bs in
    λ i. record { id = b.id; items = e i; source_end = 0 } ∷ es i

thinned_originless : (ends : Ends) (f : Function) → originless (thinned ends f) ≡ thinned ends (originless f)
thinned_originless ends f = let e = blocks_originless ends f.blocks in λ i. record f { blocks = e i }

pub round_alike : SeesCodeAlone IsRound
round_alike f f' g g' alike r r' =
    let e = ends_one f f' (alike_blocks f.blocks f'.blocks (ap (λ (z : Function). z.blocks) alike)) r.ends r'.ends r.live r'.live in
    ap originless r.thins ∙ thinned_originless r.ends f ∙ (λ i. thinned (e i) (alike i)) ∙ sym (thinned_originless r'.ends f') ∙ ap originless (sym r'.thins)

stays_alike : (f f' g' : Function) → AreAlike f f' → IsRound f f → IsThinnedOut f' g' → AreAlike f g'
stays_alike f f' g' alike r (over s) = alike
stays_alike f f' g' alike r (again g s more) = stays_alike f g g' (round_alike f f' f g alike r s) r more

pub same_thinned_out : SeesCodeAlone IsThinnedOut
same_thinned_out f f' g g' alike (over r) t = stays_alike f f' g' alike r t
same_thinned_out f f' g g' alike (again h r more) (over s) = sym (stays_alike f' f g (sym alike) s (again h r more))
same_thinned_out f f' g g' alike (again h r more) (again h' r' more') = same_thinned_out h h' g g' (round_alike f f' h h' alike r r') more more'
