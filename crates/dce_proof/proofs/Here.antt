-- What stands at a place before and after, and why code is gone.
use Rattle.std.proofs.Common.{◌≡◌, ℕ, zero, suc, ◌+◌, List, [], ◌∷◌, ◌++◌, drop, All, Contains, count_by}
use Rattle.std.proofs.Common.{Some, None, Bool, true, false, cond, ◌&&◌, slice_get, append-nil, refl, sym, ap, ◌∙◌, subst, arith}
use Rattle.std.proofs.lemmas.List.Elements.{All-contains}
use Rattle.std.proofs.lemmas.List.Sums.{sum_by-cons, sum_by-append}
use Rattle.rv64_instr.specs.declared.place.Place.{Place}
use Rattle.mir_func.specs.declared.position.Pos.{Pos}
use Rattle.mir_func.specs.declared.position.Origin.{Origin}
use Rattle.mir_func.specs.declared.position.Origin.TheVariants.{Kept, Before}
use Rattle.mir_func.specs.declared.block.Block.{Block}
use Rattle.mir_func.specs.declared.debug_substitution.DebugSubstitution.{DebugSubstitution}
use Rattle.mir_func.specs.declared.item.Item.{Item}
use Rattle.mir_func.specs.declared.item.ItemKind.{ItemKind}
use Rattle.mir_func.specs.declared.item.ItemKind.TheVariants.{Code, Mark, Phi}
use Rattle.mir_func.specs.Function.{Function}
use Rattle.mir_func.specs.Sound.{ids_of, items_of, OriginIn, IsSound}
use Rattle.mir_func.specs.Graph.{Fetch, Here, below, from_block, rest_in, rest_of}
use Rattle.mir_func.specs.Positions.{position_of}
use Rattle.sem_mir.specs.Align.{is_code}
use Rattle.sem_mir.specs.Live.{Defines, KindDefines}
use Rattle.sem_mir.proofs.Reading.{found_in}
use Rattle.sem_simulation.proofs.Laid.{laid_out}
use Rattle.pass_trait.specs.Change.{Change, change}
use Rattle.pass_trait.specs.Rule.{StandsAt}
use Rattle.pass_trait.specs.Causes.{is_origin, old_program, defines, Comes, begins, goes_on, IsFewer, IsRemoved, IsRemovedDefinition}
use Rattle.pass_trait.specs.Causes.{IsKeptDefinition, IsAfter}
use Rattle.pass_trait.proofs.NopDebug.{same_position}
use Rattle.dce_round.specs.dce_rule.Dead.{Places, Ends, is_dead, needed_at, paths_of}
use Rattle.dce_round.specs.dce_rule.Wrong.{begins_dead, silenced, taken_out, is_dead_at, IsWrongAt, made, on}
use Rattle.dce_round.proofs.dce_rule.Lists.{quiet, rest_at}
use Rattle.dce_round.proofs.dce_rule.Fewer.{fewer_of}
use Rattle.dce_round.proofs.dce_rule.Sound.{ids_taken}
use Rattle.dce_round.proofs.dce_rule.Rounds.{ends_one, blocks_self}
use Rattle.dce_round.proofs.dce_rule.Debug.{in_drop, quiet_defines, quiet_code}
use Rattle.dce_round.specs.dce_analysis.Judge.{AreJudged}
use Rattle.dce_salvage.specs.declared.salvage_numbers.Copied.{Copied}
use Rattle.dce_salvage.specs.SalvageNumbers.{without_number, salvage_phi}
use Rattle.dce_round.specs.dce_salvage_proof.SalvageLaws.{begins_off, all_off, function_off}
use Rattle.dce_proof.specs.SalvageLedger.{Line, ledger}
use Rattle.dce_proof.specs.DebugRule.{HasLine}
use Rattle.dce_proof.proofs.Lines.{bare_of, LineIs, as_it_was, numbered, by_entry, by_phi, LinesAre, no_lines, next_line, all_now}
use Rattle.dce_proof.proofs.Blocks.{verdicts_of, all_lines, BlocksAre, no_blocks, and_block, blocks_are}
use Rattle.dce_proof.proofs.Blocks.{Found, nowhere, there, lines_for, lines_for_is, found_at}
use Rattle.dce_proof.proofs.Places.{ahead, back, Alike, code, debug, alike_itself, alike_bare, phi_quiet, line_here, forth, home}

-- ---- how much code there is

module _ (p : ItemKind → Bool) (o : Origin) where
  abbrev pub tested : Item → Bool
  tested x = p x.kind && is_origin x.origin o

  abbrev weight : Bool → ℕ
  weight z = cond z 1 0

  count_first : (x : Item) (xs : List Item) → count_by tested (x ∷ xs) ≡ weight (tested x) + count_by tested xs
  count_first x xs = sum_by-cons (λ (y : Item). weight (tested y)) x xs

  count_two : (xs ys : List Item) → count_by tested (xs ++ ys) ≡ count_by tested xs + count_by tested ys
  count_two xs ys = sum_by-append (λ (y : Item). weight (tested y)) xs ys

  count_one : (x : Item) → count_by tested (x ∷ []) ≡ weight (tested x)
  count_one x = let e = count_first x [] in let z : count_by tested [] ≡ 0 = refl in omega (arith, e, z)

  -- a test that sees code alone, and not its number
  module _ (alike : (k l : ItemKind) → Alike k l → p k ≡ p l) (quiet_no : (k : ItemKind) → is_code k ≡ false → p k ≡ false) where
    same_weight : (x y : Item) → Alike x.kind y.kind → y.origin ≡ x.origin → weight (tested y) ≡ weight (tested x)
    same_weight x y a e = λ t. weight (sym (alike x.kind y.kind a) t && is_origin (e t) o)

    count_line : (subs : List DebugSubstitution) (goes : Bool) (x : Item) (l : Line) → LineIs subs goes x l → count_by tested l.now ≡ weight (tested x)
    count_line subs goes x l (as_it_was q) = count_one x
    count_line subs goes x l (numbered {i} {k} {o = o'} {l = d} stays) =
        count_one (record x { kind = Code i (Some k) }) ∙ same_weight x (record x { kind = Code i (Some k) }) (code i None (Some k)) refl
    count_line subs goes x l (by_entry c dead is entry) = count_one (bare_of x) ∙ same_weight x (bare_of x) (alike_bare x.kind) refl
    count_line subs goes x l (by_phi c dead is) =
        let a = count_first (salvage_phi c x.origin) (bare_of x ∷ []) in
        let b = count_one (bare_of x) in
        let e = same_weight x (bare_of x) (alike_bare x.kind) refl in
        let z : weight (tested (salvage_phi c x.origin)) ≡ 0 =
        (λ t. weight (quiet_no (salvage_phi c x.origin).kind (phi_quiet c x.origin) t && is_origin (salvage_phi c x.origin).origin o)) in
        omega (arith, a, b, e, z)

    count_lines : (subs : List DebugSubstitution) (needed : Places) (xs : List Item) (ls : List Line) → LinesAre subs needed xs ls →
        count_by tested (all_now ls) ≡ count_by tested xs
    count_lines subs needed xs ls no_lines = refl
    count_lines subs needed (x ∷ xs) (l ∷ ls) (next_line h rest) =
        let a = count_line subs (is_dead x.kind (needed_at xs needed)) x l h in
        let b = count_lines subs needed xs ls rest in
        let c = count_two l.now (all_now ls) in
        let d = count_first x xs in
        omega (arith, a, b, c, d)

    pub count_blocks : (subs : List DebugSubstitution) (ends : Ends) (bs cs : List Block) (lss : List (List Line)) → BlocksAre subs ends bs lss cs →
        count_by tested (items_of cs) ≡ count_by tested (items_of bs)
    count_blocks subs ends bs cs lss no_blocks = refl
    count_blocks subs ends (b ∷ bs) (c ∷ cs) (ls ∷ lss) (and_block id source_end items lines rest) =
        let a = count_lines subs (ends b.id) b.items ls lines in
        let d = count_blocks subs ends bs cs lss rest in
        let e = count_two c.items (items_of cs) in
        let h = count_two b.items (items_of bs) in
        let k : count_by tested c.items ≡ count_by tested (all_now ls) = ap (count_by tested) items in
        omega (arith, a, d, e, h, k)

pub ids_same : (subs : List DebugSubstitution) (ends : Ends) (bs cs : List Block) (lss : List (List Line)) → BlocksAre subs ends bs lss cs →
    ids_of cs ≡ ids_of bs
ids_same subs ends bs cs lss no_blocks = refl
ids_same subs ends (b ∷ bs) (c ∷ cs) (ls ∷ lss) (and_block id source_end items lines rest) =
    let e = ids_same subs ends bs cs lss rest in λ t. id t ∷ e t

code_alike : (k l : ItemKind) → Alike k l → is_code k ≡ is_code l
code_alike k l (code i n m) = refl
code_alike k l (debug z quiet) = refl

defines_alike : (x : Place) (k l : ItemKind) → Alike k l → defines x k ≡ defines x l
defines_alike x k l (code i n m) = refl
defines_alike x k l (debug z quiet) = refl

none_defines : (x : Place) (k : ItemKind) → is_code k ≡ false → defines x k ≡ false
none_defines x (Code i n) e = cc
none_defines x (Mark v m) e = refl
none_defines x (Phi l n) e = refl

same_origin : (o : Origin) → is_origin o o ≡ true
same_origin (Kept p) = same_position p
same_origin (Before p) = same_position p

origin_block : (b : Block) (o : Origin) → OriginIn b o → (position_of o).block ≡ b.id
origin_block b (Kept p) h = h.0
origin_block b (Before p) h = h.0

of_ids : (bs : List Block) (b : Block) → Contains bs b → Contains (ids_of bs) b.id
of_ids [] b (k, lt, e) = absurd (omega (arith, lt))
of_ids (a ∷ bs) b (zero, lt, e) = (zero, omega arith, ap (λ (c : Block). c.id) e)
of_ids (a ∷ bs) b (suc k, lt, e) = let w = of_ids bs b (k, omega (arith, lt), e) in (suc w.0, (let l = w.1 in omega (arith, l)), w.2)

-- one verdict on the items of a function
pub dead_one : (f : Function) (dead dead' : List (List Bool)) (j : AreJudged f dead) (j' : AreJudged f dead') → (dead' ≡ dead) × (j'.ends ≡ j.ends)
dead_one f dead dead' j j' =
    let e : j'.ends ≡ j.ends = ends_one f f (blocks_self f.blocks) j'.ends j.ends j'.live j.live in
    (j'.verdicts_are ∙ ap (λ (ends : Ends). verdicts_of ends f.blocks) e ∙ sym j.verdicts_are, e)

module _ (f : Function) (subs : List DebugSubstitution) (dead : List (List Bool)) (sound : IsSound f) (judged : AreJudged f dead) (wrong : Pos → Places) where
  abbrev ends : Ends
  ends = judged.ends

  abbrev fo : Function
  fo = function_off f subs dead

  abbrev pub lss : List (List Line)
  lss = all_lines dead f.blocks (begins_off f subs)

  abbrev final : List DebugSubstitution
  final = (all_off f subs dead).subs

  abbrev pub c : Change
  c = change f subs (taken_out wrong judged.ends (function_off f subs dead)) (all_off f subs dead).subs

  pub all : BlocksAre (all_off f subs dead).subs judged.ends f.blocks (all_lines dead f.blocks (begins_off f subs)) (function_off f subs dead).blocks
  all = blocks_are judged.ends f.blocks dead (begins_off f subs) judged.verdicts_are refl (all_off f subs dead).subs []
      (sym (append-nil (all_off f subs dead).subs))

  -- what stands at a place, and what stands for it
  pub record PlaceLine (at : Pos) (x : Item) : Type 0 where
    pub us : List Item
    pub rest : rest_of f.blocks at ≡ x ∷ us
    pub line : Line
    pub has : slice_get (ledger f subs dead at.block) at.item ≡ Some line
    pub is : LineIs (all_off f subs dead).subs (is_dead x.kind (needed_at us (judged.ends at.block))) x line
    pub zs : List Item
    pub there : rest_of (function_off f subs dead).blocks
        (forth (all_off f subs dead).subs judged.ends f (function_off f subs dead) (all_lines dead f.blocks (begins_off f subs)) all at) ≡ line.now ++ zs
    pub needs : needed_at zs (judged.ends at.block) ≡ needed_at us (judged.ends at.block)
    pub back_home : home (all_off f subs dead).subs judged.ends f (function_off f subs dead) (all_lines dead f.blocks (begins_off f subs)) all
        (forth (all_off f subs dead).subs judged.ends f (function_off f subs dead) (all_lines dead f.blocks (begins_off f subs)) all at) ≡ at

  ledger_is : (n : ℕ) → lines_for f.blocks (all_lines dead f.blocks (begins_off f subs)) n ≡ ledger f subs dead n
  ledger_is n = lines_for_is f.blocks dead (begins_off f subs) n

  pub place_line : (at : Pos) (x : Item) → StandsAt f at x → PlaceLine at x
  place_line at x stands = by_rest (rest_at false f.blocks (λ q. None) at x stands) where
    by_rest : (us : List Item) × (rest_of f.blocks at ≡ x ∷ us) → PlaceLine at x
    by_rest (us, rest) =
        by_found (found_at (all_off f subs dead).subs judged.ends f.blocks (function_off f subs dead).blocks (all_lines dead f.blocks (begins_off f subs)) all
        at.block) refl refl refl where
          by_found : {bs : List Block} {ls : List Line} {cs : List Block} → Found (all_off f subs dead).subs judged.ends at.block bs ls cs →
              from_block f.blocks at.block ≡ bs → lines_for f.blocks (all_lines dead f.blocks (begins_off f subs)) at.block ≡ ls →
              from_block (function_off f subs dead).blocks at.block ≡ cs → PlaceLine at x
          by_found nowhere ef el eg =
              let bad : [] ≡ x ∷ us = ap (λ (ds : List Block). rest_in ds at.item) (sym ef) ∙ rest in cc
          by_found (there {b} {c = d} {ls} id source_end items lines same) ef el eg =
              let here : drop at.item b.items ≡ x ∷ us = ap (λ (ds : List Block). rest_in ds at.item) (sym ef) ∙ rest in
              let r = line_here (all_off f subs dead).subs (judged.ends at.block) b.items ls lines at.item x us here in
              record {
                us = us;
                rest = rest;
                line = r.line;
                has = ap (λ (ms : List Line). slice_get ms at.item) (sym (ledger_is at.block) ∙ el) ∙ r.at;
                is = r.is;
                zs = r.rest;
                there = (λ t. rest_in (eg t) (ahead (el t) at.item)) ∙ ap (drop (ahead ls at.item)) items ∙ r.front;
                needs = r.same;
                back_home = (λ t. record { block = at.block; item = back (el t) (ahead (el t) at.item) }) ∙
                    (λ t. record { block = at.block; item = r.origin t });
              }

  pub the_line : (at : Pos) (x : Item) (p : PlaceLine at x) → HasLine c at p.line
  the_line at x p = record { dead = dead; judged = judged; stands = p.has }

  -- there is one line at a place
  pub one_line : (at : Pos) (l m : Line) → HasLine c at l → HasLine c at m → l ≡ m
  one_line at l m h k =
      let e = (dead_one f dead h.dead judged h.judged).0 in
      let e' = (dead_one f dead k.dead judged k.judged).0 in
      let s : Some l ≡ Some m = sym h.stands ∙ ap (λ (d : List (List Bool)). slice_get (ledger f subs d at.block) at.item) (e ∙ sym e') ∙ k.stands in
      cc

  pub dead_is : (at : Pos) (x : Item) (p : PlaceLine at x) → is_dead_at judged.ends f at ≡ is_dead x.kind (needed_at p.us (judged.ends at.block))
  dead_is at x p = ap (λ (xs : List Item). begins_dead xs (judged.ends at.block)) p.rest

  -- ---- why code is gone

  -- where its code stands afterwards
  record CodeThere (at : Pos) (x : Item) : Type 0 where
    pos : Pos
    item : Item
    rest : List Item
    there : rest_of (function_off f subs dead).blocks pos ≡ item ∷ rest
    block : judged.ends pos.block ≡ judged.ends at.block
    alike : Alike x.kind item.kind
    origin : item.origin ≡ x.origin
    verdict : is_dead item.kind (needed_at rest (judged.ends pos.block)) ≡ is_dead_at judged.ends f at

  alike_dead : (k l : ItemKind) (needed : Places) → Alike k l → is_dead k needed ≡ is_dead l needed
  alike_dead k l needed (code i n m) = refl
  alike_dead k l needed (debug z quiet) = refl

  -- by what a line says: one item, or a phi and the copy
  by_line : {R : Type 0} (goes : Bool) (x : Item) (l : Line) (ys zs : List Item) → LineIs (all_off f subs dead).subs goes x l → ys ≡ l.now ++ zs →
      ((y : Item) → ys ≡ y ∷ zs → Alike x.kind y.kind → y.origin ≡ x.origin → R) →
      ((z : Copied) → ys ≡ salvage_phi z x.origin ∷ bare_of x ∷ zs → R) → R
  by_line goes x l ys zs (as_it_was w) e first second = first x e (alike_itself x.kind) refl
  by_line goes x l ys zs (numbered {i} {k} {o} {l = d} stays) e first second = first (record x { kind = Code i (Some k) }) e (code i None (Some k)) refl
  by_line goes x l ys zs (by_entry z dies is entry) e first second = first (bare_of x) e (alike_bare x.kind) refl
  by_line goes x l ys zs (by_phi z dies is) e first second = second z e

  code_there : (at : Pos) (x : Item) → PlaceLine at x → CodeThere at x
  code_there at x p =
      by_line (is_dead x.kind (needed_at p.us (judged.ends at.block))) x p.line (rest_of (function_off f subs dead).blocks q) p.zs p.is p.there first
      second where
        q : Pos
        q = forth (all_off f subs dead).subs judged.ends f (function_off f subs dead) (all_lines dead f.blocks (begins_off f subs)) all at

        first : (y : Item) → rest_of (function_off f subs dead).blocks q ≡ y ∷ p.zs → Alike x.kind y.kind → y.origin ≡ x.origin → CodeThere at x
        first y e a o = record {
          pos = q;
          item = y;
          rest = p.zs;
          there = e;
          block = refl;
          alike = a;
          origin = o;
          verdict = ap (is_dead y.kind) p.needs ∙ sym (alike_dead x.kind y.kind (needed_at p.us (judged.ends at.block)) a) ∙ sym (dead_is at x p);
        }

        second : (z : Copied) → rest_of (function_off f subs dead).blocks q ≡ salvage_phi z x.origin ∷ bare_of x ∷ p.zs → CodeThere at x
        second z e = record {
          pos = below q;
          item = bare_of x;
          rest = p.zs;
          there = ((laid_out false (function_off f subs dead).blocks (λ w. None)).cons q (salvage_phi z x.origin) (bare_of x ∷ p.zs) e).1;
          block = refl;
          alike = alike_bare x.kind;
          origin = refl;
          verdict = ap (is_dead (without_number x.kind)) p.needs ∙
              sym (alike_dead x.kind (without_number x.kind) (needed_at p.us (judged.ends at.block)) (alike_bare x.kind)) ∙ sym (dead_is at x p);
        }

  fewer_at : (p : ItemKind → Bool) → ((k l : ItemKind) → Alike k l → p k ≡ p l) → ((k : ItemKind) → is_code k ≡ false → p k ≡ false) →
      ((w : Places) (k : ItemKind) → p (silenced w k) ≡ p k) → (at : Pos) (x : Item) → PlaceLine at x → is_dead_at judged.ends f at ≡ true →
      p x.kind ≡ true → IsFewer c p x.origin
  fewer_at p alike none quiet_p at x here dies passes =
      let t = code_there at x here in
      let less = fewer_of (tested p x.origin) (λ w y. ap (λ (z : Bool). z && is_origin y.origin x.origin) (quiet_p w y.kind)) wrong judged.ends
      (function_off f subs dead).blocks t.pos t.item t.rest t.there (t.verdict ∙ dies)
      ((λ i. sym (alike x.kind t.item.kind t.alike) i && is_origin (t.origin i) x.origin) ∙ (let same = same_origin x.origin in λ i. passes i && same i)) in
      let same = count_blocks p x.origin alike none (all_off f subs dead).subs judged.ends f.blocks (function_off f subs dead).blocks
      (all_lines dead f.blocks (begins_off f subs)) all in
      omega (arith, less, same)

  dead_code_kind : (k : ItemKind) (needed : Places) → is_dead k needed ≡ true → is_code k ≡ true
  dead_code_kind (Code i n) needed e = refl
  dead_code_kind (Mark v m) needed e = cc
  dead_code_kind (Phi l n) needed e = cc

  block_left : (at : Pos) (x : Item) → StandsAt f at x → Contains (ids_of c.new.blocks) (position_of x.origin).block
  block_left at x stands = by_blocks (from_block f.blocks at.block) refl (rest_at false f.blocks (λ q. None) at x stands).1 where
    by_blocks : (bs : List Block) → from_block f.blocks at.block ≡ bs → rest_in bs at.item ≡ x ∷ (rest_at false f.blocks (λ q. None) at x stands).0 →
        Contains (ids_of c.new.blocks) (position_of x.origin).block
    by_blocks [] h e = cc
    by_blocks (b ∷ bs) h e =
        let k = found_in f.blocks at.block b bs h in
        let inside : OriginIn b x.origin = All-contains (λ (i : Item). OriginIn b i.origin) b.items x
        (All-contains (λ (b : Block). All (λ (i : Item). OriginIn b i.origin) b.items) f.blocks b sound.origins k.0) (in_drop b.items at.item x _ e) in
        subst (λ (ns : List ℕ). Contains ns (position_of x.origin).block)
        (sym (ids_taken wrong judged.ends (function_off f subs dead).blocks ∙
        ids_same (all_off f subs dead).subs judged.ends f.blocks (function_off f subs dead).blocks (all_lines dead f.blocks (begins_off f subs)) all))
        (subst (Contains (ids_of f.blocks)) (sym (origin_block b x.origin inside)) (of_ids f.blocks b k.0))

  pub removed_at : (at : Pos) (x : Item) → StandsAt f at x → is_dead_at judged.ends f at ≡ true → IsRemoved c x.origin
  removed_at at x stands dies =
      let here = place_line at x stands in (
        fewer_at is_code code_alike (λ k e. e) quiet_code at x here dies
            (dead_code_kind x.kind (needed_at here.us (judged.ends at.block)) (sym (dead_is at x here) ∙ dies)),
        block_left at x stands,
      )

  -- ---- why a place is wrong

  defines_kind : (x : Place) (k : ItemKind) → KindDefines k x → defines x k ≡ true
  defines_kind x (Code i n) h = h
  defines_kind x (Mark v m) h = absurd h
  defines_kind x (Phi l n) h = absurd h

  kind_defines : (x : Place) (k : ItemKind) → defines x k ≡ true → KindDefines k x
  kind_defines x (Code i n) h = h
  kind_defines x (Mark v m) h = cc
  kind_defines x (Phi l n) h = cc

  item_at : (x : Place) (p : Pos) → Defines ((paths_of f).fetch p) x → (i : Item) × StandsAt f p i × (defines x i.kind ≡ true)
  item_at x p d = by_fetch ((paths_of f).fetch p) refl d where
    by_fetch : (z : Fetch) → (paths_of f).fetch p ≡ z → Defines z x → (i : Item) × StandsAt f p i × (defines x i.kind ≡ true)
    by_fetch (Here i) e d = (i, e, defines_kind x i.kind d)
    by_fetch _ e d = absurd d

  loses : (x : Place) (p : Pos) (i : Item) → StandsAt f p i → is_dead_at judged.ends f p ≡ true → defines x i.kind ≡ true →
      IsRemoved c i.origin × IsFewer c (defines x) i.origin
  loses x p i stands dies d =
      (removed_at p i stands dies, fewer_at (defines x) (defines_alike x) (none_defines x) (quiet_defines x) p i (place_line p i stands) dies d)

  pub comes_wrong : (x : Place) {at : Pos} → IsWrongAt judged.ends f x at →
      Comes (old_program c) (IsAfter c (IsRemovedDefinition c x)) (IsKeptDefinition c x) at
  comes_wrong x (made p dies d edge) = let w = item_at x p d in begins (p, (w.0, w.1, w.2, loses x p w.0 w.1 dies w.2), edge)
  comes_wrong x (on p w ne edge) = goes_on (comes_wrong x w) (λ kept. by_verdict (is_dead_at judged.ends f p) refl kept) edge where
    by_verdict : (z : Bool) → is_dead_at judged.ends f p ≡ z → IsKeptDefinition c x p → ⊥
    by_verdict true dies (i, stands, d, stays) = stays (loses x p i stands dies d)
    by_verdict false stay (i, stands, d, stays) = ne stay (subst (λ (z : Fetch). Defines z x) (sym stands) (kind_defines x i.kind d))
