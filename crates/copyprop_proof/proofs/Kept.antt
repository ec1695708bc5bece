-- All debug items stay where copies go, or an entry or a phi stands for them.
use Rattle.std.proofs.Common.{◌≡◌, inl, inr, ℕ, ◌+◌, List, [], ◌∷◌, ◌++◌, map, All, Contains, Option, Some, None}
use Rattle.std.proofs.Common.{append-nil, refl, sym, ap, ◌∙◌, subst, arith}
use Rattle.std.specs.List.{flat_map}
use Rattle.std.proofs.lemmas.Grind.{flat_map-append}
use Rattle.std.proofs.lemmas.List.{append_assoc}
use Rattle.std.proofs.lemmas.List.Elements.{All-nil, All-cons, All-head, All-tail, All-append, All-weaker}
use Rattle.rv64_instr.specs.Instruction.{Instruction}
use Rattle.rv64_instr.specs.Row.{row_of}
use Rattle.mir_func.specs.declared.debug_substitution.DebugSubstitution.{DebugSubstitution}
use Rattle.mir_func.specs.declared.position.Origin.{Origin}
use Rattle.mir_func.specs.declared.location.Loc.{Loc}
use Rattle.mir_func.specs.declared.block.Block.{Block}
use Rattle.mir_func.specs.declared.item.Item.{Item}
use Rattle.mir_func.specs.declared.item.ItemKind.{ItemKind}
use Rattle.mir_func.specs.declared.item.ItemKind.TheVariants.{Code, Mark, Phi}
use Rattle.mir_func.specs.Function.{Function}
use Rattle.mir_func.specs.Resolve.{at}
use Rattle.mir_func.specs.Sound.{items_of}
use Rattle.pass_trait.specs.Change.{Change, change}
use Rattle.pass_trait.specs.Rule.{item}
use Rattle.pass_trait.specs.Debug.{IsFor, KeepsItems}
use Rattle.pass_salvage.specs.declared.salvage_action.SalvageAction.{SalvageAction}
use Rattle.pass_salvage.specs.declared.salvage_action.SalvageAction.TheVariants.{HasEntry, GetsEntry, GetsPhi}
use Rattle.pass_salvage.specs.SalvageAction.{salvage_action}
use Rattle.pass_salvage.specs.Salvage.{numbered_at, phi_for, entry_for}
use Rattle.pass_salvage.proofs.Chosen.{entered}
use Rattle.pass_edits.proofs.Numbers.{IsUnlike, AreUnlike, all_second, code_is_number, number_not, number_in}
use Rattle.copyprop_block.specs.declared.roots.Root.{Root}
use Rattle.copyprop_block.specs.Roots.{renamed, known_source}
use Rattle.copyprop_block.specs.Copied.{SoFar, renamed_kind, roots_with, goes_by, by_fate, salvaged, next_item, over_items, at_block}
use Rattle.copyprop_block.specs.Copied.{BlocksSoFar, next_block, over_blocks}
use Rattle.copyprop_rule.specs.Rule.{begins, salvaged_function, salvaged_entries}
use Rattle.copyprop_rule.proofs.Stripped.{code_is_copied}
use Rattle.copyprop_proof.specs.Renamed.{known_after, renamed_items, renamed_block}
use Rattle.pass_edits.proofs.Around.{block_of}
use Rattle.pass_edits.proofs.Under.{EntryUnder}
use Rattle.copyprop_proof.proofs.Chain.{Ready, by_kind, next_roots, BlocksReady, ready_block, ready_next}
use Rattle.copyprop_proof.proofs.Follows.{ready_at_start, copies_follow}
use Rattle.copyprop_proof.specs.Ledger.{Line, next_lines, over_lines}
use Rattle.copyprop_proof.specs.Rule.{copy_debug_rule}
use Rattle.copyprop_proof.specs.DebugLaws.{CopiesKeepItems}
use Rattle.copyprop_proof.proofs.Lines.{LinesAre, no_lines, lines_more, Written, one_line}
use Rattle.copyprop_proof.proofs.Becomes.{all_lines, BlocksAre, no_blocks, and_block, lines_at, all_become}
use Rattle.copyprop_proof.proofs.Entries.{Stands, stand_stays, stand_goes, stand_added}

-- ---- one item

module _ (f : Function) (above : List Block) (id source_end : ℕ) (behind : List Block) (old : List DebugSubstitution) where
  -- the entries that were added, each of which stands
  pub record Added (a : SoFar) (rest : List Item) : Type 0 where
    pub more : List DebugSubstitution
    pub is : a.subs ≡ old ++ more
    pub stand : All (Stands above a.done rest behind a.subs) more

  added_at : (a b : SoFar) (rest : List Item) → a ≡ b → Added a rest → Added b rest
  added_at a b rest same h = subst (λ (z : SoFar). Added z rest) same h

  -- the same entries, with other items done
  same_entries : (a : SoFar) (up : List Item) (roots : List Root) (rest rest' : List Item) (w : Added a rest) → All (Stands above up rest' behind a.subs)
      w.more →
      Added (record { done = up; roots = roots; subs = a.subs; fresh = a.fresh }) rest'
  same_entries a up roots rest rest' w h = record { more = w.more; is = w.is; stand = h }

  with_nil : (a : SoFar) (up : List Item) (rest : List Item) → Added (record { done = up; roots = a.roots; subs = a.subs; fresh = a.fresh }) rest →
      Added (record { done = up; roots = a.roots; subs = a.subs ++ []; fresh = a.fresh }) rest
  with_nil a up rest h =
      subst (λ (es : List DebugSubstitution). Added (record { done = up; roots = a.roots; subs = es; fresh = a.fresh }) rest) (sym (append-nil a.subs)) h

  by_way : (a : SoFar) (i : Instruction) (k s : ℕ) (o : Origin) (l : Loc) (rest : List Item) → Ready f above id source_end behind a
      (item (Code i (Some k)) o l ∷ rest) →
      Added a (item (Code i (Some k)) o l ∷ rest) → (w : SalvageAction) → salvage_action [] a.subs a.fresh k s a.done ≡ w → Added (salvaged a k s o w) rest
  by_way a i k s o l rest ready h HasEntry is =
      with_nil a (a.done ++ []) rest
      (same_entries a (a.done ++ []) a.roots (item (Code i (Some k)) o l ∷ rest) rest h
      (stand_goes f above id source_end behind h.more a (item (Code i (Some k)) o l) rest [] h.stand (λ m u. All-nil (λ (y : Item). IsUnlike m y.kind))))
  by_way a i k s o l rest ready h GetsPhi is =
      with_nil a (a.done ++ phi_for k s o ∷ []) rest
      (same_entries a (a.done ++ phi_for k s o ∷ []) a.roots (item (Code i (Some k)) o l ∷ rest) rest h
      (stand_goes f above id source_end behind h.more a (item (Code i (Some k)) o l) rest (phi_for k s o ∷ []) h.stand
      (λ m u. All-cons (λ (y : Item). IsUnlike m y.kind) (phi_for k s o) [] u (All-nil (λ (y : Item). IsUnlike m y.kind)))))
  by_way a i k s o l rest ready h (GetsEntry d p n) is =
      let e = entered [] a.subs a.fresh k s a.done d p n is in
      let under : All (EntryUnder a.fresh) h.more = all_second (EntryUnder a.fresh) old h.more (subst (All (EntryUnder a.fresh)) h.is ready.in_entries) in
      let stand = stand_added f above id source_end behind h.more a i k s o l rest ready under d p n e h.stand in
      record {
        more = h.more ++ entry_for k n p ∷ [];
        is = ap (λ (es : List DebugSubstitution). es ++ entry_for k n p ∷ []) h.is ∙ append_assoc old h.more (entry_for k n p ∷ []);
        stand = subst (λ (xs : List Item). All (Stands above xs rest behind (a.subs ++ entry_for k n p ∷ [])) (h.more ++ entry_for k n p ∷ []))
            (sym (append-nil (numbered_at d n a.done))) stand;
      }

  by_source : (a : SoFar) (i : Instruction) (n : Option ℕ) (o : Origin) (l : Loc) (rest : List Item) (s : Option ℕ) →
      Ready f above id source_end behind a (item (Code i n) o l ∷ rest) → Added a (item (Code i n) o l ∷ rest) →
      Added (by_fate a (item (Code i n) o l) (goes_by n s)) rest
  by_source a i n o l rest None ready h =
      same_entries a (a.done ++ item (Code i n) o l ∷ []) (roots_with (Code i n) a.roots) (item (Code i n) o l ∷ rest) rest h
      (stand_stays f above id source_end behind h.more a (item (Code i n) o l) rest h.stand)
  by_source a i None o l rest (Some s) ready h =
      subst (λ (xs : List Item). Added (record { done = xs; roots = a.roots; subs = a.subs; fresh = a.fresh }) rest) (append-nil a.done)
      (same_entries a (a.done ++ []) a.roots (item (Code i None) o l ∷ rest) rest h
      (stand_goes f above id source_end behind h.more a (item (Code i None) o l) rest [] h.stand (λ m u. All-nil (λ (y : Item). IsUnlike m y.kind))))
  by_source a i (Some k) o l rest (Some s) ready h = by_way a i k s o l rest ready h (salvage_action [] a.subs a.fresh k s a.done) refl

  next_added : (a : SoFar) (k : ItemKind) (o : Origin) (l : Loc) (rest : List Item) → Ready f above id source_end behind a
      (item (renamed_kind a.roots k) o l ∷ rest) →
      Added a (item (renamed_kind a.roots k) o l ∷ rest) → Added (next_item a (item k o l)) rest
  next_added a (Code i n) o l rest ready h = by_source a (renamed a.roots i) n o l rest (known_source a.roots (row_of (renamed a.roots i))) ready h
  next_added a (Mark v m) o l rest ready h =
      same_entries a (a.done ++ item (Mark v m) o l ∷ []) a.roots (item (Mark v m) o l ∷ rest) rest h
      (stand_stays f above id source_end behind h.more a (item (Mark v m) o l) rest h.stand)
  next_added a (Phi p m) o l rest ready h =
      same_entries a (a.done ++ item (Phi p m) o l ∷ []) a.roots (item (Phi p m) o l ∷ rest) rest h
      (stand_stays f above id source_end behind h.more a (item (Phi p m) o l) rest h.stand)

  -- ---- the items of a block

  pub record Going (before : List Item) (ls : List Line) (a : SoFar) (rest : List Item) : Type 0 where
    pub ready : Ready f above id source_end behind a rest
    pub written : Written before ls a
    pub added : Added a rest

  pub over : (xs before : List Item) (ls : List Line) (a : SoFar) → Going before ls a (renamed_items a.roots xs) →
      Going (before ++ xs) (over_lines ls a xs) (over_items a xs) []
  over [] before ls a g = subst (λ (zs : List Item). Going zs ls a []) (sym (append-nil before)) g
  over (x ∷ xs) before ls a g =
      let b : SoFar = next_item a x in
      let known : List Root = known_after a.roots (renamed_kind a.roots x.kind) in
      let rest : List Item = renamed_items known xs in
      let one : Going (before ++ x ∷ []) (next_lines ls a x) b rest = record {
        ready = (by_kind f above id source_end behind a x.kind x.origin x.loc rest g.ready).ready;
        written = one_line before ls a g.ready.clean g.written x.kind x.origin x.loc;
        added = next_added a x.kind x.origin x.loc rest g.ready g.added;
      } in
      let same : b.roots ≡ known = next_roots a x.kind x.origin x.loc in
      subst (λ (zs : List Item). Going zs (over_lines (next_lines ls a x) b xs) (over_items b xs) []) (append_assoc before (x ∷ []) xs)
      (over xs (before ++ x ∷ []) (next_lines ls a x) b
      (subst (λ (e : List Root). Going (before ++ x ∷ []) (next_lines ls a x) b (renamed_items e xs)) (sym same) one))

-- ---- entries are only added

way_grows : (a : SoFar) (k s : ℕ) (o : Origin) (w : SalvageAction) → (more : List DebugSubstitution) × ((salvaged a k s o w).subs ≡ a.subs ++ more)
way_grows a k s o HasEntry = ([], refl)
way_grows a k s o GetsPhi = ([], refl)
way_grows a k s o (GetsEntry d p n) = (entry_for k n p ∷ [], refl)

source_grows : (a : SoFar) (i : Instruction) (n : Option ℕ) (o : Origin) (l : Loc) (s : Option ℕ) →
    (more : List DebugSubstitution) × ((by_fate a (item (Code i n) o l) (goes_by n s)).subs ≡ a.subs ++ more)
source_grows a i n o l None = ([], sym (append-nil a.subs))
source_grows a i None o l (Some s) = ([], sym (append-nil a.subs))
source_grows a i (Some k) o l (Some s) = way_grows a k s o (salvage_action [] a.subs a.fresh k s a.done)

item_grows : (a : SoFar) (k : ItemKind) (o : Origin) (l : Loc) → (more : List DebugSubstitution) × ((next_item a (item k o l)).subs ≡ a.subs ++ more)
item_grows a (Code i n) o l = source_grows a (renamed a.roots i) n o l (known_source a.roots (row_of (renamed a.roots i)))
item_grows a (Mark v m) o l = ([], sym (append-nil a.subs))
item_grows a (Phi p m) o l = ([], sym (append-nil a.subs))

items_grow : (xs : List Item) (a : SoFar) → (more : List DebugSubstitution) × ((over_items a xs).subs ≡ a.subs ++ more)
items_grow [] a = ([], sym (append-nil a.subs))
items_grow (x ∷ xs) a =
    let one = item_grows a x.kind x.origin x.loc in
    let two = items_grow xs (next_item a x) in
    (one.0 ++ two.0, two.1 ∙ ap (λ (es : List DebugSubstitution). es ++ two.0) one.1 ∙ append_assoc a.subs one.0 two.0)

-- ---- the blocks

module _ (f : Function) (old : List DebugSubstitution) where
  record Through (a : BlocksSoFar) (bs : List Block) : Type 0 where
    ready : BlocksReady f a bs
    more : List DebugSubstitution
    is : a.subs ≡ old ++ more
    stand : All (Stands a.blocks [] [] (map renamed_block bs) a.subs) more

  record Made (a : BlocksSoFar) (bs : List Block) : Type 0 where
    news : List Block
    is : (over_blocks a bs).blocks ≡ a.blocks ++ news
    are : BlocksAre (over_blocks a bs).subs bs (all_lines a bs) news
    grown : List DebugSubstitution
    grew : (over_blocks a bs).subs ≡ a.subs ++ grown
    more : List DebugSubstitution
    added : (over_blocks a bs).subs ≡ old ++ more
    stand : All (Stands (over_blocks a bs).blocks [] [] [] (over_blocks a bs).subs) more

  abbrev N : ℕ → Item → Type 0
  N k x = IsUnlike k x.kind

  abbrev NB : ℕ → Block → Type 0
  NB k b = All (λ (x : Item). IsUnlike k x.kind) b.items

  into_block : (a : BlocksSoFar) (b : Block) (bs : List Block) (e : DebugSubstitution) → Stands a.blocks [] [] (map renamed_block (b ∷ bs)) a.subs e →
      Stands a.blocks [] (renamed_items [] b.items) (map renamed_block bs) a.subs e
  into_block a b bs e w = record {
    whole = w.whole;
    gone = record {
      above = w.gone.above;
      up = w.gone.up;
      down = All-head (NB e.src.number) (renamed_block b) (map renamed_block bs) w.gone.behind;
      behind = All-tail (NB e.src.number) (renamed_block b) (map renamed_block bs) w.gone.behind;
    };
    given = w.given;
    end = w.end;
  }

  past_block : (a : BlocksSoFar) (id source_end : ℕ) (done : List Item) (gs : List Block) (subs : List DebugSubstitution) (e : DebugSubstitution) →
      Stands a.blocks done [] gs subs e →
      Stands (a.blocks ++ block_of id source_end done ∷ []) [] [] gs subs e
  past_block a id source_end done gs subs e w = record {
    whole = w.whole;
    gone = record {
      above = All-append (NB e.src.number) a.blocks (block_of id source_end done ∷ []) w.gone.above
          (All-cons (NB e.src.number) (block_of id source_end done) [] w.gone.up (All-nil (NB e.src.number)));
      up = All-nil (N e.src.number);
      down = w.gone.down;
      behind = w.gone.behind;
    };
    given = (
      w.given.0,
      subst (λ (zs : List Item). Contains zs w.given.0)
          (ap (λ (zs : List Item). items_of a.blocks ++ zs) (sym (append-nil done)) ∙
          sym (flat_map-append (λ (c : Block). c.items) a.blocks (block_of id source_end done ∷ [])) ∙
          sym (append-nil (items_of (a.blocks ++ block_of id source_end done ∷ [])))) w.given.1,
      w.given.2,
    );
    end = w.end;
  }

  through : (bs : List Block) (a : BlocksSoFar) → Through a bs → Made a bs
  through [] a t = record {
    news = [];
    is = sym (append-nil a.blocks);
    are = no_blocks;
    grown = [];
    grew = sym (append-nil a.subs);
    more = t.more;
    added = t.is;
    stand = t.stand;
  }
  through (b ∷ bs) a t =
      let rest : List Block = map renamed_block bs in
      let start : SoFar = at_block a.subs a.fresh in
      let end : SoFar = over_items start b.items in
      let ls : List Line = over_lines [] start b.items in
      let going : Going f a.blocks b.id b.source_end rest old [] [] start (renamed_items [] b.items) = record {
        ready = ready_block f b bs a t.ready;
        written = record { lines = no_lines; now = refl };
        added = record {
          more = t.more;
          is = t.is;
          stand = All-weaker (Stands a.blocks [] [] (map renamed_block (b ∷ bs)) a.subs) (Stands a.blocks [] (renamed_items [] b.items) rest a.subs)
              (into_block a b bs) t.more t.stand;
        };
      } in
      let done : Going f a.blocks b.id b.source_end rest old b.items ls end [] = over f a.blocks b.id b.source_end rest old b.items [] [] start going in
      let made : Block = block_of b.id b.source_end end.done in
      let r : Made (next_block a b) bs = through bs (next_block a b) (record {
        ready = ready_next f b bs a done.ready;
        more = done.added.more;
        is = done.added.is;
        stand = All-weaker (Stands a.blocks end.done [] rest end.subs) (Stands (a.blocks ++ made ∷ []) [] [] rest end.subs)
            (past_block a b.id b.source_end end.done rest end.subs) done.added.more done.added.stand;
      }) in
      let grow = items_grow b.items start in
      record {
        news = made ∷ r.news;
        is = r.is ∙ append_assoc a.blocks (made ∷ []) r.news;
        are = and_block refl refl (sym done.written.now)
            (subst (λ (es : List DebugSubstitution). LinesAre es b.items ls) (sym r.grew) (lines_more end.subs r.grown b.items ls done.written.lines)) r.are;
        grown = grow.0 ++ r.grown;
        grew = r.grew ∙ ap (λ (es : List DebugSubstitution). es ++ r.grown) grow.1 ∙ append_assoc a.subs grow.0 r.grown;
        more = r.more;
        added = r.added;
        stand = r.stand;
      }

-- ---- what an added entry is for

flat_all : (k : ℕ) (bs : List Block) → All (λ (b : Block). All (λ (x : Item). IsUnlike k x.kind) b.items) bs → AreUnlike k (items_of bs)
flat_all k [] h = All-nil (λ (x : Item). IsUnlike k x.kind)
flat_all k (b ∷ bs) h =
    All-append (λ (x : Item). IsUnlike k x.kind) b.items (items_of bs) (All-head (λ (c : Block). All (λ (x : Item). IsUnlike k x.kind) c.items) b bs h)
    (flat_all k bs (All-tail (λ (c : Block). All (λ (x : Item). IsUnlike k x.kind) c.items) b bs h))

is_for : (f : Function) (subs : List DebugSubstitution) (e : DebugSubstitution) →
    Stands (salvaged_function f subs).blocks [] [] [] (salvaged_entries f subs) e →
    IsFor (change f subs (salvaged_function f subs) (salvaged_entries f subs)) [] e
is_for f subs e w =
    let items : List Item = items_of (salvaged_function f subs).blocks in
    record {
      whole = w.whole;
      gone = number_not items e.src.number (flat_all e.src.number (salvaged_function f subs).blocks w.gone.above);
      stands = (
        e.dst,
        at w.end,
        inl (number_in items w.given.0 e.dst.number (subst (λ (zs : List Item). Contains zs w.given.0) (append-nil items) w.given.1)
            (code_is_number w.given.0.kind e.dst.number w.given.2)),
      );
    }

-- ---- all of it

pub copies_keep : CopiesKeepItems
copies_keep f subs sound =
    let new : Function = salvaged_function f subs in
    let entries : List DebugSubstitution = salvaged_entries f subs in
    let c : Change = change f subs new entries in
    let m : Made f subs (begins f subs) f.blocks = through f subs f.blocks (begins f subs)
    (record {
      ready = ready_at_start f subs sound;
      more = [];
      is = sym (append-nil subs);
      stand = All-nil
          (Stands [] [] [] (map renamed_block f.blocks) subs);
    }) in
    let kept : KeepsItems copy_debug_rule c [] = record {
      blocks = all_become f sound subs m.news (all_lines (begins f subs) f.blocks) m.are m.is
          (λ j b ls here here'. lines_at f.blocks (begins f subs) sound.blocks_apart j b ls here here');
      subs = (
        m.more,
        m.added,
        sym m.added,
        All-weaker (Stands new.blocks [] [] [] entries) (IsFor c []) (is_for f subs) m.more m.stand,
      );
      said = λ k d lt. absurd (omega (arith, lt));
      told = λ loss h. elim h [ inl w ↦ absurd w.1 | inr w ↦ absurd w.3 ];
      ordered = λ i j d lt lt'. absurd (omega (arith, lt'));
      caused = λ place loss h. absurd h;
      left = λ r why h. absurd h;
      spilled = λ r slot h. absurd h;
      renamed = λ r now h. absurd h;
    } in (
      new,
      entries,
      [],
      [],
      record { sound = (copies_follow f subs sound).0; code = code_is_copied f subs; items = kept },
      (refl, refl, refl),
      refl,
    )
