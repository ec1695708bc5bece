-- What is lost in a round is what its rule says is lost at each place.
use Rattle.std.proofs.Common.{◌≡◌, ℕ, zero, suc, List, [], ◌∷◌, ◌++◌, drop, Contains, Some, None, Bool, true, false}
use Rattle.std.proofs.Common.{nat_eq, eq-eqb, slice_get, get_or, refl, sym, ap, ◌∙◌, subst}
use Rattle.std.proofs.lemmas.Bool.{eqb-true}
use Rattle.std.proofs.lemmas.Option.{slice_get-get_or, slice_get_within, get_or_from_slice_get}
use Rattle.rv64_instr.specs.declared.place.Place.{Place}
use Rattle.rv64_instr.specs.declared.place.Place.TheVariants.{Register}
use Rattle.rv64_instr.specs.Instruction.{Instruction}
use Rattle.rv64_instr.specs.Row.{row_of}
use Rattle.mir_func.specs.declared.position.Pos.{Pos}
use Rattle.mir_func.specs.declared.position.Origin.{Origin}
use Rattle.mir_func.specs.declared.location.Loc.{Loc}
use Rattle.mir_func.specs.declared.block.Block.{Block}
use Rattle.mir_func.specs.declared.debug_substitution.DebugSubstitution.{DebugSubstitution}
use Rattle.mir_func.specs.declared.item.Item.{Item}
use Rattle.mir_func.specs.declared.item.ItemKind.{ItemKind}
use Rattle.mir_func.specs.declared.item.ItemKind.TheVariants.{Code, Mark, Phi}
use Rattle.mir_func.specs.declared.variable.MarkValue.TheVariants.{Nothing, Constant, At, Pair}
use Rattle.mir_func.specs.Function.{Function}
use Rattle.sem_mir.specs.Live.{Defines, KindDefines}
use Rattle.mir_func.specs.Graph.{Fetch, below, front, fetch_in, from_block, rest_in, rest_of}
use Rattle.mir_func.specs.Sound.{IsSound}
use Rattle.mir_func.specs.Successors.{pos_in}
use Rattle.sem_mir.proofs.Reading.{found, found_in}
use Rattle.sem_simulation.proofs.Laid.{laid_out}
use Rattle.pass_trait.specs.declared.loss.Reason.TheVariants.{Removed, WrongPlace}
use Rattle.pass_trait.specs.declared.loss.Loss.{Loss}
use Rattle.pass_trait.specs.Rule.{IsCopy, StandsAt, item, number_lost, mark_lost}
use Rattle.dce_round.specs.dce_rule.Dead.{Places, Ends, is_dead, needed_at}
use Rattle.dce_round.specs.dce_rule.Wrong.{begins_dead, is_dead_at, IsWrongAt}
use Rattle.dce_round.specs.dce_rule.RemovalDebugRule.{LosesOf, LosesAt}
use Rattle.dce_round.proofs.dce_rule.Lists.{rest_at}
use Rattle.dce_round.specs.dce_analysis.Judge.{AreJudged}
use Rattle.dce_salvage.specs.declared.salvage_numbers.Copied.{Copied}
use Rattle.dce_salvage.specs.SalvageNumbers.{without_number, numbered_copy, phi_by_own, salvage_phi}
use Rattle.dce_round.specs.dce_salvage_proof.SalvageLaws.{begins_off, all_off, function_off}
use Rattle.dce_round.proofs.dce_salvage_proof.Copy.{IsCopyOf, copy_of as copy_is, split_at}
use Rattle.dce_proof.specs.SalvageLedger.{Line, ledger}
use Rattle.dce_proof.specs.DebugRule.{HasLine, Loses, number, copy, mark, phi, dead_rule}
use Rattle.dce_proof.proofs.Lines.{bare_of, LineIs, as_it_was, numbered, by_entry, by_phi, Own}
use Rattle.dce_proof.proofs.Blocks.{all_lines, BlocksAre, no_blocks, and_block, lines_at, lines_for, lines_for_is, Found, nowhere, there, found_at, OwnIn}
use Rattle.dce_proof.proofs.Blocks.{there_lost}
use Rattle.dce_proof.proofs.Places.{ahead, Whose, first_of, copy_of, whose, forth, wrong_home, wrong_forth}
use Rattle.dce_proof.proofs.Here.{c, all, PlaceLine, place_line, one_line, dead_is}
use Rattle.dce_proof.proofs.Become.{copied_not, is_copy, is_not, copy_defines, wrong_above, own_wrong, wrong_below, ends_are}

lines_of_block : (subs : List DebugSubstitution) (ends : Ends) (bs cs : List Block) (lss : List (List Line)) → BlocksAre subs ends bs lss cs →
    (j : ℕ) (b : Block) →
    slice_get bs j ≡ Some b → (ls : List Line) × (slice_get lss j ≡ Some ls)
lines_of_block subs ends bs cs lss no_blocks j b at = cc
lines_of_block subs ends (a ∷ bs) (d ∷ cs) (ls ∷ lss) (and_block id source_end items lines rest) zero b at = (ls, refl)
lines_of_block subs ends (a ∷ bs) (d ∷ cs) (ls ∷ lss) (and_block id source_end items lines rest) (suc j) b at = lines_of_block subs ends bs cs lss rest j b at

block_at : (bs : List Block) (b : Block) → Contains bs b → (j : ℕ) × (slice_get bs j ≡ Some b)
block_at bs b (j, lt, e) = (j, slice_get-get_or bs j b lt ∙ ap Some e)

get_of_drop : (xs : List Item) (n : ℕ) (x : Item) (us : List Item) → drop n xs ≡ x ∷ us → slice_get xs n ≡ Some x
get_of_drop [] zero x us e = cc
get_of_drop [] (suc n) x us e = cc
get_of_drop (y ∷ ys) zero x us e = let s : y ≡ x = cc in ap Some s
get_of_drop (y ∷ ys) (suc n) x us e = get_of_drop ys n x us e

head_is : (x y : Item) (xs ys : List Item) → x ∷ xs ≡ y ∷ ys → x ≡ y
head_is x y xs ys e = cc

module _ (f : Function) (subs : List DebugSubstitution) (dead : List (List Bool)) (sound : IsSound f) (judged : AreJudged f dead) (wrong : Pos → Places) where
  every : BlocksAre (all_off f subs dead).subs judged.ends f.blocks (all_lines dead f.blocks (begins_off f subs)) (function_off f subs dead).blocks
  every = all f subs dead sound judged wrong

  abbrev moved : Pos → Pos
  moved at = forth (all_off f subs dead).subs judged.ends f (function_off f subs dead) (all_lines dead f.blocks (begins_off f subs)) every at

  L : Pos → ItemKind → Origin → Loss → Type 0
  L at k o loss = Loses (c f subs dead sound judged wrong) at k o loss

  wrong_here : (at : Pos) (x : Item) (p : PlaceLine f subs dead sound judged wrong at x) (r : Place) →
      IsWrongAt judged.ends (function_off f subs dead) r
      (forth (all_off f subs dead).subs judged.ends f (function_off f subs dead) (all_lines dead f.blocks (begins_off f subs)) every at) →
      IsWrongAt judged.ends f r at
  wrong_here at x p r w =
      subst (IsWrongAt judged.ends f r) p.back_home
      (wrong_home (all_off f subs dead).subs judged.ends f (function_off f subs dead) (all_lines dead f.blocks (begins_off f subs)) every r w)

  -- ---- what is lost of what stands for an item is lost of the item

  -- of an item that stays as it was
  same_item : (at q : Pos) (kk : ItemKind) (o : Origin) (loss : Loss) →
      (is_dead_at judged.ends (function_off f subs dead) q ≡ true → is_dead_at judged.ends f at ≡ true) →
      (is_dead_at judged.ends f at ≡ true → numbered_copy kk ≡ None) →
      ((r : Place) → IsWrongAt judged.ends (function_off f subs dead) r q → IsWrongAt judged.ends f r at) →
      LosesOf judged.ends (function_off f subs dead) q kk o loss → Loses (c f subs dead sound judged wrong) at kk o loss
  same_item at q (Code i (Some k)) o loss dies no_copy was (dd, e) =
      subst (Loses (c f subs dead sound judged wrong) at (Code i (Some k)) o) (sym e) (number dead judged (dies dd) (copied_not i k (no_copy (dies dd))))
  same_item at q (Code i None) o loss dies no_copy was h = absurd h
  same_item at q (Mark v (At r)) o loss dies no_copy was (w, e) =
      subst (Loses (c f subs dead sound judged wrong) at (Mark v (At r)) o) (sym e) (mark dead judged (was (Register r) w))
  same_item at q (Mark v Nothing) o loss dies no_copy was h = absurd h
  same_item at q (Mark v (Constant n)) o loss dies no_copy was h = absurd h
  same_item at q (Mark v (Pair z)) o loss dies no_copy was h = absurd h
  same_item at q (Phi (Some x) k) o loss dies no_copy was (w, e) =
      subst (Loses (c f subs dead sound judged wrong) at (Phi (Some x) k) o) (sym e) (phi dead judged (was x w))
  same_item at q (Phi None k) o loss dies no_copy was h = absurd h

  first_line : (at q : Pos) (kk : ItemKind) (o : Origin) (d : Loc) (zs : List Item) (l : Line) (goes : Bool) → q.block ≡ at.block →
      is_dead_at judged.ends f at ≡ goes → is_dead kk (needed_at zs (judged.ends at.block)) ≡ goes → LineIs (all_off f subs dead).subs goes (item kk o d) l →
      rest_of (function_off f subs dead).blocks q ≡ l.now ++ zs → HasLine (c f subs dead sound judged wrong) at l → StandsAt f at (item kk o d) →
      ((r : Place) → IsWrongAt judged.ends (function_off f subs dead) r q → IsWrongAt judged.ends f r at) → (y : Item) (more : List Item) →
      l.now ≡ y ∷ more → (loss : Loss) → LosesOf judged.ends (function_off f subs dead) q y.kind y.origin loss →
      Loses (c f subs dead sound judged wrong) at kk o loss
  first_line at q kk o d zs l goes block verdict dead_zs (as_it_was nc) e has stands was y more now loss h =
      let s = head_is (item kk o d) y [] more now in
      same_item at q kk o loss
      (λ dd. verdict ∙ sym dead_zs ∙ sym (λ t. begins_dead (e t) (judged.ends (block t))) ∙ dd) (λ dies. nc (sym verdict ∙ dies)) was
      (subst (λ (z : Item). LosesOf judged.ends (function_off f subs dead) q z.kind z.origin loss) (sym s) h)
  first_line at q kk o d zs l goes block verdict dead_zs (numbered {i} {k} stay) e has stands was y more now loss h =
      let s = head_is (item (Code i (Some k)) o d) y [] more now in
      let w = subst (λ (z : Item). LosesOf judged.ends (function_off f subs dead) q z.kind z.origin loss) (sym s) h in
      absurd (is_not (is_dead_at judged.ends (function_off f subs dead) q) w.0 ((λ t. begins_dead (e t) (judged.ends (block t))) ∙ dead_zs ∙ stay))
  first_line at q kk o d zs l goes block verdict dead_zs (by_entry z dies is entry) e has stands was y more now loss h =
      let s = head_is (bare_of (item kk o d)) y [] more now in
      let t = copy_is kk z is in
      let w = subst (λ (z : Item). LosesOf judged.ends (function_off f subs dead) q z.kind z.origin loss) (sym s) h in
      absurd (subst (λ (m : ItemKind). LosesOf judged.ends (function_off f subs dead) q (without_number m) o loss) t.is w)
  first_line at q kk o d zs l goes block verdict dead_zs (by_phi z dies is) e has stands was y more now loss h =
      let s = head_is (salvage_phi z o) y (bare_of (item kk o d) ∷ []) more now in
      let w = subst (λ (z : Item). LosesOf judged.ends (function_off f subs dead) q z.kind z.origin loss) (sym s) h in
      by_own z.own w where
        by_own : (own : Bool) → LosesOf judged.ends (function_off f subs dead) q (phi_by_own own z.number z.source o).kind
            (phi_by_own own z.number z.source o).origin loss → Loses (c f subs dead sound judged wrong) at kk o loss
        by_own true w = absurd w
        by_own false (w, is_loss) =
            let t = copy_is kk z is in
            let stands' : StandsAt f at (item (Code t.code (Some z.number)) o d) = subst (λ (m : ItemKind). StandsAt f at (item m o d)) t.is stands in
            let bad = wrong_below f subs dead sound judged wrong at t.code z.number t.target z.source o d t.row stands' (verdict ∙ dies)
            (was (Register z.source) w) in
            subst (Loses (c f subs dead sound judged wrong) at kk o) (sym is_loss)
            (subst (λ (m : ItemKind). Loses (c f subs dead sound judged wrong) at m o (number_lost z.number WrongPlace)) (sym t.is)
            (copy (record { now = salvage_phi z o ∷ bare_of (item kk o d) ∷ []; phi = Some z.source }) has refl
            (subst (λ (v : Ends). IsWrongAt v f (Register z.source) (below at)) (sym (ends_are f subs dead sound judged wrong has.dead has.judged)) bad)))

  first_loses : (at : Pos) (x : Item) (p : PlaceLine f subs dead sound judged wrong at x) →
      StandsAt f at x → (y : Item) (more : List Item) → p.line.now ≡ y ∷ more → (loss : Loss) →
      LosesOf judged.ends (function_off f subs dead)
      (forth (all_off f subs dead).subs judged.ends f (function_off f subs dead) (all_lines dead f.blocks (begins_off f subs)) every at) y.kind y.origin loss →
      Loses (c f subs dead sound judged wrong) at x.kind x.origin loss
  first_loses at x p stands y more now loss h =
      first_line at (forth (all_off f subs dead).subs judged.ends f (function_off f subs dead) (all_lines dead f.blocks (begins_off f subs)) every at)
      x.kind x.origin x.loc p.zs p.line (is_dead x.kind (needed_at p.us (judged.ends at.block))) refl (dead_is f subs dead sound judged wrong at x p)
      (ap (is_dead x.kind) p.needs) p.is p.there (record { dead = dead; judged = judged; stands = p.has }) stands
      (wrong_here at x p) y more now loss h

  -- what is lost where dead code goes, of the item for which something stands there
  pub out_loses : (q : Pos) (loss : Loss) → LosesAt judged.ends (function_off f subs dead) q loss →
      (at : Pos) × dead_rule.loses (c f subs dead sound judged wrong) at loss
  out_loses q loss (y, stands, h) = by_rest (rest_at false (function_off f subs dead).blocks (λ z. None) q y stands) where
    by_rest : (vs : List Item) × (rest_of (function_off f subs dead).blocks q ≡ y ∷ vs) → (at : Pos) × dead_rule.loses
        (c f subs dead sound judged wrong) at loss
    by_rest (vs, rest) =
        by_found (found_at (all_off f subs dead).subs judged.ends f.blocks (function_off f subs dead).blocks (all_lines dead f.blocks (begins_off f subs)) every
        q.block) refl refl refl where
          by_found : {bs : List Block} {ls : List Line} {cs : List Block} → Found (all_off f subs dead).subs judged.ends q.block bs ls cs →
              from_block f.blocks q.block ≡ bs → lines_for f.blocks (all_lines dead f.blocks (begins_off f subs)) q.block ≡ ls →
              from_block (function_off f subs dead).blocks q.block ≡ cs → (at : Pos) × dead_rule.loses (c f subs dead sound judged wrong) at loss
          by_found nowhere ef el eg = let bad : [] ≡ y ∷ vs = ap (λ (ds : List Block). rest_in ds q.item) (sym eg) ∙ rest in cc
          by_found (there {b} {c = e} {ls} {bs} id source_end items lines same) ef el eg =
              by_whose (whose (all_off f subs dead).subs (judged.ends q.block) b.items ls lines q.item y vs
              (ap (drop q.item) (sym items) ∙ ap (λ (ds : List Block). rest_in ds q.item) (sym eg) ∙ rest)) where
                by_whose : Whose (all_off f subs dead).subs (judged.ends q.block) b.items ls q.item y →
                    (at : Pos) × dead_rule.loses (c f subs dead sound judged wrong) at loss
                by_whose (copy_of x z is e) =
                    let t = copy_is x.kind z is in
                    absurd (subst (λ (m : ItemKind). LosesOf judged.ends (function_off f subs dead) q (without_number m) x.origin loss) t.is
                    (subst (λ (z : Item). LosesOf judged.ends (function_off f subs dead) q z.kind z.origin loss) (sym e) h))
                by_whose (first_of n x us line at_x at_l is m_is more now) =
                    let at : Pos = pos_in q.block n in
                    let stands_x : StandsAt f (pos_in q.block n) x =
                    ap (λ (ds : List Block). fetch_in ds n) ef ∙ ap (λ (zs : List Item). front zs b.source_end bs) at_x in
                    let p = place_line f subs dead sound judged wrong (pos_in q.block n) x stands_x in
                    let led : ledger f subs dead q.block ≡ ls = sym (lines_for_is f.blocks dead (begins_off f subs) q.block) ∙ el in
                    let has : HasLine (c f subs dead sound judged wrong) (pos_in q.block n) line =
                    record { dead = dead; judged = judged; stands = ap (λ (ms : List Line). slice_get ms n) led ∙ at_l } in
                    let one = one_line f subs dead sound judged wrong (pos_in q.block n) line p.line has
                    (record { dead = dead; judged = judged; stands = p.has }) in
                    let q_is : q ≡ forth (all_off f subs dead).subs judged.ends f (function_off f subs dead) (all_lines dead f.blocks (begins_off f subs)) every
                    (pos_in q.block n) = (λ t. pos_in q.block (m_is t)) ∙ (λ t. pos_in q.block (ahead (sym el t) n)) in (
                      pos_in q.block n,
                      (
                        x,
                        stands_x,
                        first_loses (pos_in q.block n) x p stands_x y more (ap (λ (l : Line). l.now) (sym one) ∙ now) loss
                            (subst (λ (r : Pos). LosesOf judged.ends (function_off f subs dead) r y.kind y.origin loss) q_is h),
                      ),
                    )

  -- ---- of copies that set their own source

  pub own_loses : (loss : Loss) → OwnIn f.blocks (all_lines dead f.blocks (begins_off f subs)) loss →
      (at : Pos) × dead_rule.loses (c f subs dead sound judged wrong) at loss
  own_loses loss (j, b, ls, n, x, line, at_b, at_ls, at_x, at_l, (z, is, own, phi_is, loss_is)) =
      let behind = (split_at b.items n x at_x).behind in
      let w = found f.blocks sound.blocks_apart b (
        j,
        slice_get_within f.blocks j b at_b,
        get_or_from_slice_get f.blocks j b b at_b,
      ) in
      let stands : StandsAt f (pos_in b.id n) x =
      ap (λ (bs : List Block). fetch_in bs n) w.at ∙ ap (λ (ys : List Item). front ys b.source_end w.rest) behind in
      let p = place_line f subs dead sound judged wrong (pos_in b.id n) x stands in
      let led = lines_at f.blocks dead (begins_off f subs) sound.blocks_apart j b ls at_b at_ls in
      let has : HasLine (c f subs dead sound judged wrong) (pos_in b.id n) line =
      record { dead = dead; judged = judged; stands = ap (λ (ms : List Line). slice_get ms n) led ∙ at_l } in
      let one = one_line f subs dead sound judged wrong (pos_in b.id n) p.line line (record { dead = dead; judged = judged; stands = p.has }) has in
      let t = copy_is x.kind z is in
      let dies = dead_is f subs dead sound judged wrong (pos_in b.id n) x p ∙ goes_of p.line p.is (ap (λ (l : Line). l.phi) one ∙ phi_is) in
      let bad = own_wrong f subs dead sound judged wrong (pos_in b.id n) t.code z.number t.target z.source x.origin x.loc t.row
      (sym (eqb-true (suc t.target) z.source (sym t.own ∙ own)))
      (subst (λ (m : ItemKind). StandsAt f (pos_in b.id n) (item m x.origin x.loc)) t.is stands) dies in (
        pos_in b.id n,
        (
          x,
          stands,
          subst (Loses (c f subs dead sound judged wrong) (pos_in b.id n) x.kind x.origin) (sym loss_is)
              (subst (λ (m : ItemKind). Loses (c f subs dead sound judged wrong) (pos_in b.id n) m x.origin (number_lost z.number WrongPlace)) (sym t.is)
              (copy line has phi_is bad)),
        ),
      ) where
        goes_of : {goes : Bool} {x : Item} (l : Line) → LineIs (all_off f subs dead).subs goes x l → l.phi ≡ Some z.source → goes ≡ true
        goes_of l (as_it_was q) e = cc
        goes_of l (numbered stays) e = cc
        goes_of l (by_entry z goes is entry) e = goes
        goes_of l (by_phi z goes is) e = goes

  -- ---- what the rule says is told

  module _ (losses : List Loss)
      (from_off : (l : Loss) → Contains (all_off f subs dead).lost l → Contains losses l)
      (from_out : (q : Pos) (l : Loss) → LosesAt judged.ends (function_off f subs dead) q l → Contains losses l) where
    -- what stands first for an item stands there
    stands_there : (at : Pos) (x : Item) (p : PlaceLine f subs dead sound judged wrong at x) (y : Item) (more : List Item) → p.line.now ≡ y ∷ more →
        StandsAt (function_off f subs dead)
        (forth (all_off f subs dead).subs judged.ends f (function_off f subs dead) (all_lines dead f.blocks (begins_off f subs)) every at) y
    stands_there at x p y more now =
        ((laid_out false (function_off f subs dead).blocks (λ z. None)).cons
        (forth (all_off f subs dead).subs judged.ends f (function_off f subs dead) (all_lines dead f.blocks (begins_off f subs)) every at) y (more ++ p.zs)
        (p.there ∙ ap (λ (ys : List Item). ys ++ p.zs) now)).0

    there_wrong : (at : Pos) (r : Place) → IsWrongAt judged.ends f r at → IsWrongAt judged.ends (function_off f subs dead) r
        (forth (all_off f subs dead).subs judged.ends f (function_off f subs dead) (all_lines dead f.blocks (begins_off f subs)) every at)
    there_wrong at r w =
        wrong_forth (all_off f subs dead).subs judged.ends f (function_off f subs dead) (all_lines dead f.blocks (begins_off f subs)) every r w

    -- a copy whose phi asks for a place that is wrong
    own_in : (at : Pos) (x : Item) (p : PlaceLine f subs dead sound judged wrong at x) (loss : Loss) → Own x p.line loss →
        OwnIn f.blocks (all_lines dead f.blocks (begins_off f subs)) loss
    own_in at x p loss own = by_blocks (from_block f.blocks at.block) refl where
      by_blocks : (bs : List Block) → from_block f.blocks at.block ≡ bs → OwnIn f.blocks (all_lines dead f.blocks (begins_off f subs)) loss
      by_blocks [] h = let bad : [] ≡ x ∷ p.us = ap (λ (ds : List Block). rest_in ds at.item) (sym h) ∙ p.rest in cc
      by_blocks (b ∷ bs) h =
          let k = found_in f.blocks at.block b bs h in
          let w = block_at f.blocks b k.0 in
          let v = lines_of_block (all_off f subs dead).subs judged.ends f.blocks (function_off f subs dead).blocks
          (all_lines dead f.blocks (begins_off f subs)) every w.0 b w.1 in
          let led = lines_at f.blocks dead (begins_off f subs) sound.blocks_apart w.0 b v.0 w.1 v.1 in
          let led' : ledger f subs dead at.block ≡ v.0 = ap (λ (n : ℕ). ledger f subs dead n) (sym k.1) ∙ led in (
            w.0,
            b,
            v.0,
            at.item,
            x,
            p.line,
            w.1,
            v.1,
            get_of_drop b.items at.item x p.us (ap (λ (ds : List Block). rest_in ds at.item) (sym h) ∙ p.rest),
            ap (λ (ls : List Line). slice_get ls at.item) (sym led') ∙ p.has,
            own,
          )

    said_copy : (at : Pos) (i : Instruction) (k : ℕ) (o : Origin) (d : Loc) (p : PlaceLine f subs dead sound judged wrong at
        (item (Code i (Some k)) o d)) (s : ℕ) →
        StandsAt f at (item (Code i (Some k)) o d) → p.line.phi ≡ Some s → IsWrongAt judged.ends f (Register s) (below at) →
        Contains losses (number_lost k WrongPlace)
    said_copy at i k o d p s stands some bad = by_line p.line p.is refl where
      by_line : (l : Line) → LineIs (all_off f subs dead).subs (is_dead (Code i (Some k)) (needed_at p.us (judged.ends at.block)))
          (item (Code i (Some k)) o d) l →
          p.line ≡ l → Contains losses (number_lost k WrongPlace)
      by_line l (as_it_was nc) is = let no_phi : None ≡ Some s = sym (ap (λ (m : Line). m.phi) is) ∙ some in cc
      by_line l (by_entry z goes copied entry) is = let no_phi : None ≡ Some s = sym (ap (λ (m : Line). m.phi) is) ∙ some in cc
      by_line l (by_phi z goes copied) is = by_own z.own refl where
        both : Some z.source ≡ Some s
        both = sym (ap (λ (m : Line). m.phi) is) ∙ some

        s_is : z.source ≡ s
        s_is = let e = both in cc

        t : IsCopyOf (Code i (Some k)) z
        t = copy_is (Code i (Some k)) z copied

        k_is : z.number ≡ k
        k_is = let e : Code i (Some k) ≡ Code t.code (Some z.number) = t.is in let n : Some k ≡ Some z.number = cc in cc

        by_own : (own : Bool) → z.own ≡ own → Contains losses (number_lost k WrongPlace)
        by_own true e =
            from_off (number_lost k WrongPlace) (there_lost f.blocks dead (begins_off f subs) (number_lost k WrongPlace)
            (own_in at (item (Code i (Some k)) o d) p (number_lost k WrongPlace)
            (z, copied, e, ap (λ (m : Line). m.phi) is, (λ u. number_lost (sym k_is u) WrongPlace))))
        by_own false e =
            let right = wrong_above f judged.ends (Register z.source) at (below at) refl
            (λ defs. (let same = copy_defines t.code (Some z.number) t.target z.source z.source t.row
            (subst (λ (m : ItemKind). KindDefines m (Register z.source)) t.is
            (subst (λ (w : Fetch). Defines w (Register z.source)) stands defs)) in
            is_not (nat_eq (suc t.target) z.source) (eq-eqb (suc t.target) z.source (sym same)) (sym t.own ∙ e)))
            (subst (λ (r : ℕ). IsWrongAt judged.ends f (Register r) (below at)) (sym s_is) bad) in
            from_out (forth (all_off f subs dead).subs judged.ends f (function_off f subs dead) (all_lines dead f.blocks (begins_off f subs)) every at)
            (number_lost k WrongPlace) (
              salvage_phi z o,
              stands_there at (item (Code i (Some k)) o d) p (salvage_phi z o) (bare_of (item (Code i (Some k)) o d) ∷ []) (ap (λ (m : Line). m.now) is),
              loses_phi z.own e (there_wrong at (Register z.source) right),
            ) where
              loses_phi : (own : Bool) → own ≡ false → IsWrongAt judged.ends (function_off f subs dead) (Register z.source)
                  (forth (all_off f subs dead).subs judged.ends f (function_off f subs dead) (all_lines dead f.blocks (begins_off f subs)) every at) →
                  LosesOf judged.ends (function_off f subs dead)
                  (forth (all_off f subs dead).subs judged.ends f (function_off f subs dead) (all_lines dead f.blocks (begins_off f subs)) every at)
                  (phi_by_own own z.number z.source o).kind (phi_by_own own z.number z.source o).origin (number_lost k WrongPlace)
              loses_phi true e w = cc
              loses_phi false e w = (w, (λ u. number_lost (sym k_is u) WrongPlace))

    as_said : (at : Pos) (kk : ItemKind) (o : Origin) (d : Loc) (p : PlaceLine f subs dead sound judged wrong at (item kk o d)) (loss : Loss) →
        StandsAt f at (item kk o d) → Loses (c f subs dead sound judged wrong) at kk o loss → Contains losses loss
    as_said at kk o d p loss stands (number {i} {k} e j dies no_copy) = by_line p.line p.is refl where
      dies_here : is_dead_at judged.ends f at ≡ true
      dies_here = ap (λ (z : Ends). is_dead_at z f at) (sym (ends_are f subs dead sound judged wrong e j)) ∙ dies

      by_line : (l : Line) → LineIs (all_off f subs dead).subs (is_dead (Code i (Some k)) (needed_at p.us (judged.ends at.block)))
          (item (Code i (Some k)) o d) l →
          p.line ≡ l → Contains losses (number_lost k Removed)
      by_line l (as_it_was nc) is =
          from_out (forth (all_off f subs dead).subs judged.ends f (function_off f subs dead) (all_lines dead f.blocks (begins_off f subs)) every at)
          (number_lost k Removed) (
            item (Code i (Some k)) o d,
            stands_there at (item (Code i (Some k)) o d) p (item (Code i (Some k)) o d) [] (ap (λ (m : Line). m.now) is),
            (
              ap (λ (xs : List Item). begins_dead xs (judged.ends at.block)) (p.there ∙ ap (λ (m : Line). m.now ++ p.zs) is) ∙
                  ap (is_dead (Code i (Some k))) p.needs ∙ sym (dead_is f subs dead sound judged wrong at (item (Code i (Some k)) o d) p) ∙ dies_here,
              refl,
            ),
          )
      by_line l (by_entry z goes copied entry) is = absurd (no_copy (copy_code z copied)) where
        copy_code : (z : Copied) → numbered_copy (Code i (Some k)) ≡ Some z → IsCopy (row_of i)
        copy_code z copied =
            let t = copy_is (Code i (Some k)) z copied in
            let both : Code i (Some k) ≡ Code t.code (Some z.number) = t.is in
            let same : i ≡ t.code = cc in
            subst (λ (a : Instruction). IsCopy (row_of a)) (sym same) (is_copy t.code t.target z.source t.row)
      by_line l (by_phi z goes copied) is = absurd (no_copy (copy_code z copied)) where
        copy_code : (z : Copied) → numbered_copy (Code i (Some k)) ≡ Some z → IsCopy (row_of i)
        copy_code z copied =
            let t = copy_is (Code i (Some k)) z copied in
            let both : Code i (Some k) ≡ Code t.code (Some z.number) = t.is in
            let same : i ≡ t.code = cc in
            subst (λ (a : Instruction). IsCopy (row_of a)) (sym same) (is_copy t.code t.target z.source t.row)
    as_said at kk o d p loss stands (mark {v} {r} e j w) =
        let here = subst (λ (z : Ends). IsWrongAt z f (Register r) at) (ends_are f subs dead sound judged wrong e j) w in
        by_line p.line p.is refl here where
          by_line : (l : Line) → LineIs (all_off f subs dead).subs (is_dead (Mark v (At r)) (needed_at p.us (judged.ends at.block)))
              (item (Mark v (At r)) o d) l →
              p.line ≡ l → IsWrongAt judged.ends f (Register r) at → Contains losses (mark_lost o WrongPlace)
          by_line l (as_it_was nc) is here =
              from_out (forth (all_off f subs dead).subs judged.ends f (function_off f subs dead) (all_lines dead f.blocks (begins_off f subs)) every at)
              (mark_lost o WrongPlace) (
                item (Mark v (At r)) o d,
                stands_there at (item (Mark v (At r)) o d) p (item (Mark v (At r)) o d) [] (ap (λ (m : Line). m.now) is),
                (there_wrong at (Register r) here, refl),
              )
          by_line l (by_entry z goes copied entry) is here = cc
          by_line l (by_phi z goes copied) is here = cc
    as_said at kk o d p loss stands (phi {x} {k} e j w) =
        let here = subst (λ (z : Ends). IsWrongAt z f x at) (ends_are f subs dead sound judged wrong e j) w in
        by_line p.line p.is refl here where
          by_line : (l : Line) → LineIs (all_off f subs dead).subs (is_dead (Phi (Some x) k) (needed_at p.us (judged.ends at.block)))
              (item (Phi (Some x) k) o d) l →
              p.line ≡ l → IsWrongAt judged.ends f x at → Contains losses (number_lost k WrongPlace)
          by_line l (as_it_was nc) is here =
              from_out (forth (all_off f subs dead).subs judged.ends f (function_off f subs dead) (all_lines dead f.blocks (begins_off f subs)) every at)
              (number_lost k WrongPlace) (
                item (Phi (Some x) k) o d,
                stands_there at (item (Phi (Some x) k) o d) p (item (Phi (Some x) k) o d) [] (ap (λ (m : Line). m.now) is),
                (there_wrong at x here, refl),
              )
          by_line l (by_entry z goes copied entry) is here = cc
          by_line l (by_phi z goes copied) is here = cc
    as_said at kk o d p loss stands (copy {i} {k} {s} l has some w) =
        let m = one_line f subs dead sound judged wrong at p.line l (record { dead = dead; judged = judged; stands = p.has }) has in
        said_copy at i k o d p s stands (ap (λ (z : Line). z.phi) m ∙ some)
        (subst (λ (z : Ends). IsWrongAt z f (Register s) (below at)) (ends_are f subs dead sound judged wrong has.dead has.judged) w)

    pub all_said : (at : Pos) (loss : Loss) → dead_rule.loses (c f subs dead sound judged wrong) at loss → Contains losses loss
    all_said at loss (x, stands, h) = as_said at x.kind x.origin x.loc (place_line f subs dead sound judged wrong at x stands) loss stands h
