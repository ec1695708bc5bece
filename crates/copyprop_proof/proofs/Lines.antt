-- What the lines of a ledger say: what each item became.
use Rattle.std.proofs.Common.{◌≡◌, ℕ, zero, suc, ◌+◌, ◌<◌, ◌≤◌, List, [], ◌∷◌, ◌++◌, drop, Option, Some, None, Bool, true, false, cond}
use Rattle.std.proofs.Common.{◌&&◌, count_by, is_some, slice_get, append-nil, refl, sym, ap, ◌∙◌, subst, arith}
use Rattle.std.specs.List.{flat_map}
use Rattle.std.proofs.lemmas.Grind.{flat_map-append}
use Rattle.std.proofs.lemmas.List.Sums.{sum_by-cons, sum_by-append}
use Rattle.rv64_instr.specs.Instruction.{Instruction}
use Rattle.rv64_instr.specs.Row.{Row, Moves, row_of}
use Rattle.rv64_instr.specs.LocationEffects.{is_call}
use Rattle.mir_func.specs.declared.debug_substitution.DebugSubstitution.{DebugSubstitution}
use Rattle.mir_func.specs.declared.position.Origin.{Origin}
use Rattle.mir_func.specs.declared.location.Loc.{Loc}
use Rattle.mir_func.specs.declared.item.Item.{Item}
use Rattle.mir_func.specs.declared.item.ItemKind.{ItemKind}
use Rattle.mir_func.specs.declared.item.ItemKind.TheVariants.{Code, Mark, Phi}
use Rattle.mir_func.specs.declared.variable.VarId.{VarId}
use Rattle.mir_func.specs.declared.variable.MarkValue.{MarkValue}
use Rattle.rv64_instr.specs.declared.place.Place.{Place}
use Rattle.mir_func.specs.Resolve.{entry_of}
use Rattle.sem_mir.specs.Align.{is_code}
use Rattle.pass_trait.specs.Causes.{is_origin}
use Rattle.pass_trait.specs.Rule.{IsCopy, item, first_operand}
use Rattle.pass_salvage.specs.declared.salvage_action.SalvageAction.{SalvageAction}
use Rattle.pass_salvage.specs.declared.salvage_action.SalvageAction.TheVariants.{HasEntry, GetsEntry, GetsPhi}
use Rattle.pass_salvage.specs.SalvageAction.{has_entry, or_fresh, may_stand, action_by, action_of_kind}
use Rattle.pass_salvage.specs.SalvageAction.{action_at, action_from, salvage_action, first_definition, last_definition}
use Rattle.pass_salvage.specs.Salvage.{numbered_at, phi_for, entry_for, put_for}
use Rattle.pass_salvage.proofs.Chosen.{entered}
use Rattle.pass_edits.proofs.Entered.{entered_more, entry_added, none_there}
use Rattle.copyprop_block.specs.declared.roots.Root.{Root}
use Rattle.copyprop_block.specs.Roots.{renamed, known_source, roots_after}
use Rattle.copyprop_block.specs.Copied.{SoFar, goes_by, by_fate, salvaged, next_item}
use Rattle.copyprop_rule.proofs.Rows.{rooted, row_renamed}
use Rattle.copyprop_rule.proofs.Sizes.{known_moves}
use Rattle.copyprop_proof.proofs.Known.{IsClean, keeps_zero}
use Rattle.copyprop_proof.specs.Ledger.{Line, numbered_line, line, lines_above, phi_of, lines_by_fate, next_lines}

-- the copy's pair has an entry
abbrev pub IsEnteredIn : List DebugSubstitution → ℕ → Type 0
IsEnteredIn subs k = (e : DebugSubstitution) × (entry_of subs (first_operand k) ≡ Some e)

-- what an item became
pub data LineIs (subs : List DebugSubstitution) : Item → Line → Type 0 where
  mark : {v : VarId} {m : MarkValue} {o : Origin} {l : Loc} → LineIs subs (item (Mark v m) o l) (line (item (Mark v m) o l ∷ []) None)
  phi : {p : Option Place} {k : ℕ} {o : Origin} {l : Loc} → LineIs subs (item (Phi p k) o l) (line (item (Phi p k) o l ∷ []) None)
  code : {i j : Instruction} {n : Option ℕ} {o : Origin} {l : Loc} → LineIs subs (item (Code i n) o l) (line (item (Code j n) o l ∷ []) None)
  numbered : {i j : Instruction} {k : ℕ} {o : Origin} {l : Loc} →
      LineIs subs (item (Code i None) o l) (record { now = item (Code j (Some k)) o l ∷ []; gained = Some k; phi = None })
  out : {i : Instruction} {o : Origin} {l : Loc} → LineIs subs (item (Code i None) o l) (line [] None)
  out_entered : {i : Instruction} {k : ℕ} {o : Origin} {l : Loc} → IsCopy (row_of i) → IsEnteredIn subs k →
      LineIs subs (item (Code i (Some k)) o l) (line [] None)
  out_phi : {i : Instruction} {k s : ℕ} {o : Origin} {l : Loc} → IsCopy (row_of i) →
      LineIs subs (item (Code i (Some k)) o l) (line (phi_for k s o ∷ []) (Some s))

pub data LinesAre (subs : List DebugSubstitution) : List Item → List Line → Type 0 where
  no_lines : LinesAre subs [] []
  next_line : {x : Item} {l : Line} {xs : List Item} {ls : List Line} → LineIs subs x l → LinesAre subs xs ls → LinesAre subs (x ∷ xs) (l ∷ ls)

-- all that stands for items
abbrev pub all_now : List Line → List Item
all_now ls = flat_map (λ (l : Line). l.now) ls

-- ---- entries are only added

line_more : (subs more : List DebugSubstitution) (x : Item) (l : Line) → LineIs subs x l → LineIs (subs ++ more) x l
line_more subs more x l mark = mark
line_more subs more x l phi = phi
line_more subs more x l code = code
line_more subs more x l numbered = numbered
line_more subs more x l out = out
line_more subs more x l (out_entered {k = k} copy e) = out_entered copy (e.0, entered_more subs more (first_operand k) e.0 e.1)
line_more subs more x l (out_phi copy) = out_phi copy

pub lines_more : (subs more : List DebugSubstitution) (xs : List Item) (ls : List Line) → LinesAre subs xs ls → LinesAre (subs ++ more) xs ls
lines_more subs more xs ls no_lines = no_lines
lines_more subs more (x ∷ xs) (l ∷ ls) (next_line h rest) = next_line (line_more subs more x l h) (lines_more subs more xs ls rest)

pub lines_append : {subs : List DebugSubstitution} {xs us : List Item} {ls ms : List Line} → LinesAre subs xs ls → LinesAre subs us ms →
    LinesAre subs (xs ++ us) (ls ++ ms)
lines_append no_lines k = k
lines_append (next_line h rest) k = next_line h (lines_append rest k)

-- ---- code gets a number

pub record Numbered (subs : List DebugSubstitution) (xs : List Item) (d n : ℕ) (ls : List Line) : Type 0 where
  pub lines : LinesAre subs xs (numbered_line d n ls)
  pub now : all_now (numbered_line d n ls) ≡ numbered_at d n (all_now ls)

-- what stands there is no code
code_of : Option Item → Bool
code_of None = true
code_of (Some y) = is_code y.kind

not_code : (y : Item) (j : Instruction) (own : Option ℕ) (o : Origin) (l : Loc) → is_code y.kind ≡ false → Some y ≡ Some (item (Code j own) o l) → ⊥
unfolding code_of
not_code y j own o l none e = let bad : false ≡ true = sym none ∙ ap code_of e in cc

-- a line of one item, of which the item gets the number
pub numbered_lines : (subs : List DebugSubstitution) (fresh d n : ℕ) (j : Instruction) (own : Option ℕ) (o : Origin) (l : Loc) (xs : List Item)
    (ls : List Line) →
    LinesAre subs xs ls → slice_get (all_now ls) d ≡ Some (item (Code j own) o l) → n ≡ or_fresh fresh own → Numbered subs xs d n ls
numbered_lines subs fresh d n j own o l xs ls no_lines at same = cc
numbered_lines subs fresh zero n j own o l (x ∷ xs) (m ∷ ls) (next_line mark rest) at same = absurd (not_code x j own o l refl at)
numbered_lines subs fresh zero n j own o l (x ∷ xs) (m ∷ ls) (next_line phi rest) at same = absurd (not_code x j own o l refl at)
numbered_lines subs fresh zero n j own o l (x ∷ xs) (m ∷ ls) (next_line (code {i} {j = j'} {n = z} {o = o'} {l = l'}) rest) at same =
    by_number z (let w : Some (item (Code j' z) o' l') ≡ Some (item (Code j own) o l) = at in number_is w) where
      number_is : Some (item (Code j' z) o' l') ≡ Some (item (Code j own) o l) → z ≡ own
      number_is w = let k : item (Code j' z) o' l' ≡ item (Code j own) o l = cc in let c : Code j' z ≡ Code j own = ap (λ (y : Item). y.kind) k in cc

      by_number : (z : Option ℕ) → z ≡ own → Numbered subs (item (Code i z) o' l' ∷ xs) zero n (line (item (Code j' z) o' l' ∷ []) None ∷ ls)
      by_number None is = record { lines = next_line numbered rest; now = refl }
      by_number (Some m) is =
          let e : n ≡ m = same ∙ ap (or_fresh fresh) (sym is) in
          record {
            lines = next_line (subst (λ (t : ℕ). LineIs subs (item (Code i (Some m)) o' l') (line (item (Code j' (Some t)) o' l' ∷ []) None)) (sym e) code)
                rest;
            now = refl;
          }
numbered_lines subs fresh zero n j own o l (x ∷ xs) (m ∷ ls) (next_line (numbered {i} {j = j'} {k} {o = o'} {l = l'}) rest) at same =
    let w : item (Code j' (Some k)) o' l' ≡ item (Code j own) o l = cc in
    let c : Code j' (Some k) ≡ Code j own = ap (λ (y : Item). y.kind) w in
    let is : Some k ≡ own = cc in
    let e : n ≡ k = same ∙ ap (or_fresh fresh) (sym is) in
    record {
      lines = next_line (subst (λ (t : ℕ). LineIs subs (item (Code i None) o' l')
          (record { now = item (Code j' (Some t)) o' l' ∷ []; gained = Some k; phi = None }))
          (sym e) numbered) rest;
      now = refl;
    }
numbered_lines subs fresh d n j own o l (x ∷ xs) (m ∷ ls) (next_line out rest) at same =
    let r = numbered_lines subs fresh d n j own o l xs ls rest at same in record { lines = next_line out r.lines; now = r.now }
numbered_lines subs fresh d n j own o l (x ∷ xs) (m ∷ ls) (next_line (out_entered copy e) rest) at same =
    let r = numbered_lines subs fresh d n j own o l xs ls rest at same in record { lines = next_line (out_entered copy e) r.lines; now = r.now }
numbered_lines subs fresh zero n j own o l (x ∷ xs) (m ∷ ls) (next_line (out_phi {k} {s} {o = p} copy) rest) at same =
    absurd (not_code (phi_for k s p) j own o l refl at)
numbered_lines subs fresh (suc d) n j own o l (x ∷ xs) (m ∷ ls) (next_line mark rest) at same =
    let r = numbered_lines subs fresh d n j own o l xs ls rest at same in record { lines = next_line mark r.lines; now = ap (λ (ys : List Item). x ∷ ys) r.now }
numbered_lines subs fresh (suc d) n j own o l (x ∷ xs) (m ∷ ls) (next_line phi rest) at same =
    let r = numbered_lines subs fresh d n j own o l xs ls rest at same in record { lines = next_line phi r.lines; now = ap (λ (ys : List Item). x ∷ ys) r.now }
numbered_lines subs fresh (suc d) n j own o l (x ∷ xs) (m ∷ ls) (next_line (code {j = j'} {n = z} {o = o'} {l = l'}) rest) at same =
    let r = numbered_lines subs fresh d n j own o l xs ls rest at same in
    record { lines = next_line code r.lines; now = ap (λ (ys : List Item). item (Code j' z) o' l' ∷ ys) r.now }
numbered_lines subs fresh (suc d) n j own o l (x ∷ xs) (m ∷ ls) (next_line (numbered {j = j'} {k} {o = o'} {l = l'}) rest) at same =
    let r = numbered_lines subs fresh d n j own o l xs ls rest at same in
    record { lines = next_line numbered r.lines; now = ap (λ (ys : List Item). item (Code j' (Some k)) o' l' ∷ ys) r.now }
numbered_lines subs fresh (suc d) n j own o l (x ∷ xs) (m ∷ ls) (next_line (out_phi {k} {s} {o = o'} copy) rest) at same =
    let r = numbered_lines subs fresh d n j own o l xs ls rest at same in
    record { lines = next_line (out_phi copy) r.lines; now = ap (λ (ys : List Item). phi_for k s o' ∷ ys) r.now }

-- ---- one item more

pub record Written (xs : List Item) (ls : List Line) (a : SoFar) : Type 0 where
  pub lines : LinesAre a.subs xs ls
  pub now : all_now ls ≡ a.done

-- a renamed copy was one
pub copy_back : (e : List Root) (clean : IsClean e) (i : Instruction) (rd s : ℕ) → row_of (renamed e i) ≡ Moves (suc rd) s → IsCopy (row_of i)
copy_back e clean i rd s row = by_row (row_of i) (sym (row_renamed e (keeps_zero e clean) i) ∙ row) where
  by_row : (r : Row) → rooted e r ≡ Moves (suc rd) s → IsCopy r
  by_row (Moves zero t) h = cc
  by_row (Moves (suc d) t) h = tt
  by_row _ h = cc

now_push : (ls : List Line) (l : Line) (done : List Item) → all_now ls ≡ done → all_now (ls ++ l ∷ []) ≡ done ++ l.now
now_push ls l done is =
    flat_map-append (λ (m : Line). m.now) ls (l ∷ []) ∙ (λ i. is i ++ append-nil l.now i)

has_some : (x : Option DebugSubstitution) → is_some x ≡ true → (e : DebugSubstitution) × (x ≡ Some e)
has_some None h = cc
has_some (Some e) h = (e, refl)

-- no other way is that it has an entry
module _ (subs : List DebugSubstitution) (fresh k s : ℕ) (done : List Item) where
  no_operand : (d : ℕ) (n : Option ℕ) (p : Option ℕ) (behind : List Item) → action_by [] subs fresh k d n p behind ≡ HasEntry → ⊥
  no_operand d n None behind e = cc
  no_operand d n (Some o) behind e = by_test (may_stand [] subs k d n o behind) e where
    by_test : (z : Bool) → cond z (GetsEntry d o (or_fresh fresh n)) GetsPhi ≡ HasEntry → ⊥
    by_test true e = cc
    by_test false e = cc

  no_kind : (d : ℕ) (kind : ItemKind) → action_of_kind [] subs fresh k s d done kind ≡ HasEntry → ⊥
  no_kind d (Code i n) e = no_operand d n (first_definition (is_call (row_of i)) s i.operands) (drop (suc d) done) e
  no_kind d (Mark v m) e = cc
  no_kind d (Phi p m) e = cc

  no_item : (d : ℕ) (x : Option Item) → action_at [] subs fresh k s d done x ≡ HasEntry → ⊥
  no_item d None e = cc
  no_item d (Some x) e = no_kind d x.kind e

  no_from : (o : Option ℕ) → action_from [] subs fresh k s done o ≡ HasEntry → ⊥
  no_from None e = cc
  no_from (Some d) e = no_item d (slice_get done d) e

  entry_there : salvage_action [] subs fresh k s done ≡ HasEntry → IsEnteredIn subs k
  entry_there is = by_test (has_entry subs (Some k) 0) refl is where
    by_test : (z : Bool) → has_entry subs (Some k) 0 ≡ z → cond z HasEntry (action_from [] subs fresh k s done (last_definition s done)) ≡ HasEntry →
        IsEnteredIn subs k
    by_test true h e = has_some (entry_of subs (first_operand k)) h
    by_test false h e = absurd (no_from (last_definition s done) e)

module _ (xs : List Item) (ls : List Line) (a : SoFar) (clean : IsClean a.roots) (w : Written xs ls a) where
  stays_line : (i : Instruction) (n : Option ℕ) (o : Origin) (l : Loc) (roots : List Root) →
      Written (xs ++ item (Code i n) o l ∷ []) (ls ++ line (item (Code (renamed a.roots i) n) o l ∷ []) None ∷ [])
      (record { done = a.done ++ item (Code (renamed a.roots i) n) o l ∷ []; roots = roots; subs = a.subs; fresh = a.fresh })
  stays_line i n o l roots = record {
    lines = lines_append w.lines (next_line code no_lines);
    now = now_push ls (line (item (Code (renamed a.roots i) n) o l ∷ []) None) a.done w.now;
  }

  out_line : (i : Instruction) (o : Origin) (l : Loc) → Written (xs ++ item (Code i None) o l ∷ []) (ls ++ line [] None ∷ []) a
  out_line i o l = record {
    lines = lines_append w.lines (next_line out no_lines);
    now = now_push ls (line [] None) a.done w.now ∙ append-nil a.done;
  }

  way_line : (i : Instruction) (k s : ℕ) (o : Origin) (l : Loc) → IsCopy (row_of i) → (v : SalvageAction) → salvage_action [] a.subs a.fresh k s a.done ≡ v →
      Written (xs ++ item (Code i (Some k)) o l ∷ []) (lines_above v ls ++ line (put_for v k s o) (phi_of v s) ∷ []) (salvaged a k s o v)
  way_line i k s o l copy HasEntry is = record {
    lines = lines_more a.subs [] (xs ++ item (Code i (Some k)) o l ∷ []) (ls ++ line [] None ∷ [])
        (lines_append w.lines (next_line (out_entered copy (entry_there a.subs a.fresh k s a.done is)) no_lines));
    now = now_push ls (line [] None) a.done w.now;
  }
  way_line i k s o l copy GetsPhi is = record {
    lines = lines_more a.subs [] (xs ++ item (Code i (Some k)) o l ∷ []) (ls ++ line (phi_for k s o ∷ []) (Some s) ∷ [])
        (lines_append w.lines (next_line (out_phi copy) no_lines));
    now = now_push ls (line (phi_for k s o ∷ []) (Some s)) a.done w.now;
  }
  way_line i k s o l copy (GetsEntry d p n) is =
      let e = entered [] a.subs a.fresh k s a.done d p n is in
      let r = numbered_lines a.subs a.fresh d n e.i e.own e.origin e.loc xs ls w.lines (ap (λ (ys : List Item). slice_get ys d) w.now ∙ e.stands) e.number in
      let more : List DebugSubstitution = entry_for k n p ∷ [] in
      record {
        lines = lines_append (lines_more a.subs more xs (numbered_line d n ls) r.lines)
            (next_line (out_entered copy (entry_for k n p, entry_added a.subs k n p (none_there (entry_of a.subs (first_operand k)) e.none))) no_lines);
        now = now_push (numbered_line d n ls) (line [] None) (numbered_at d n a.done) (r.now ∙ ap (numbered_at d n) w.now);
      }

  source_line : (i : Instruction) (n : Option ℕ) (o : Origin) (l : Loc) (s : Option ℕ) → known_source a.roots (row_of (renamed a.roots i)) ≡ s →
      Written (xs ++ item (Code i n) o l ∷ []) (lines_by_fate ls a (item (Code (renamed a.roots i) n) o l) (goes_by n s))
      (by_fate a (item (Code (renamed a.roots i) n) o l) (goes_by n s))
  source_line i n o l None is = stays_line i n o l (roots_after (row_of (renamed a.roots i)) a.roots)
  source_line i None o l (Some s) is = out_line i o l
  source_line i (Some k) o l (Some s) is =
      let m = known_moves a.roots (row_of (renamed a.roots i)) s is in
      way_line i k s o l (copy_back a.roots clean i m.0 s m.1) (salvage_action [] a.subs a.fresh k s a.done) refl

  pub one_line : (k : ItemKind) (o : Origin) (l : Loc) → Written (xs ++ item k o l ∷ []) (next_lines ls a (item k o l)) (next_item a (item k o l))
  one_line (Code i n) o l = source_line i n o l (known_source a.roots (row_of (renamed a.roots i))) refl
  one_line (Mark v m) o l = record {
    lines = lines_append w.lines (next_line mark no_lines);
    now = now_push ls (line (item (Mark v m) o l ∷ []) None) a.done w.now;
  }
  one_line (Phi p m) o l = record {
    lines = lines_append w.lines (next_line phi no_lines);
    now = now_push ls (line (item (Phi p m) o l ∷ []) None) a.done w.now;
  }

-- ---- how much code is left

abbrev pub weight : Bool → ℕ
weight z = cond z 1 0

module _ (o : Origin) where
  abbrev pub test : Item → Bool
  test x = is_code x.kind && is_origin x.origin o

  count_first : (x : Item) (xs : List Item) → count_by test (x ∷ xs) ≡ weight (test x) + count_by test xs
  count_first x xs = sum_by-cons (λ (y : Item). weight (test y)) x xs

  count_two : (xs ys : List Item) → count_by test (xs ++ ys) ≡ count_by test xs + count_by test ys
  count_two xs ys = sum_by-append (λ (y : Item). weight (test y)) xs ys

  pub count_one : (x : Item) → count_by test (x ∷ []) ≡ weight (test x)
  count_one x = let e = count_first x [] in let z : count_by test [] ≡ 0 = refl in omega (arith, e, z)

  count_line : (subs : List DebugSubstitution) (x : Item) (l : Line) → LineIs subs x l → count_by test l.now ≤ weight (test x)
  count_line subs x l mark = let e = count_one x in omega (arith, e)
  count_line subs x l phi = let e = count_one x in omega (arith, e)
  count_line subs x l (code {i} {j} {n} {o = p} {l = q}) = let e = count_one (item (Code j n) p q) in omega (arith, e)
  count_line subs x l (numbered {i} {j} {k} {o = p} {l = q}) = let e = count_one (item (Code j (Some k)) p q) in omega (arith, e)
  count_line subs x l out = let z : count_by test [] ≡ 0 = refl in omega (arith, z)
  count_line subs x l (out_entered copy e) = let z : count_by test [] ≡ 0 = refl in omega (arith, z)
  count_line subs x l (out_phi {k} {s} {o = p} copy) = let e = count_one (phi_for k s p) in omega (arith, e)

  pub count_lines : (subs : List DebugSubstitution) (xs : List Item) (ls : List Line) → LinesAre subs xs ls → count_by test (all_now ls) ≤ count_by test xs
  count_lines subs xs ls no_lines = let z : count_by test [] ≡ 0 = refl in omega (arith, z)
  count_lines subs (x ∷ xs) (l ∷ ls) (next_line h rest) =
      let a = count_line subs x l h in
      let b = count_lines subs xs ls rest in
      let c = count_two l.now (all_now ls) in
      let d = count_first x xs in
      omega (arith, a, b, c, d)

  -- less where one of it is gone
  pub fewer_lines : (subs : List DebugSubstitution) (xs : List Item) (ls : List Line) (n : ℕ) (x : Item) (l : Line) → LinesAre subs xs ls →
      slice_get xs n ≡ Some x →
      slice_get ls n ≡ Some l → test x ≡ true → count_by test l.now ≡ 0 → count_by test (all_now ls) < count_by test xs
  fewer_lines subs xs ls n x l no_lines at at' passes none = cc
  fewer_lines subs (y ∷ xs) (m ∷ ls) zero x l (next_line h rest) at at' passes none =
      let same : y ≡ x = cc in
      let same' : m ≡ l = cc in
      let b = count_lines subs xs ls rest in
      let c = count_two m.now (all_now ls) in
      let d = count_first y xs in
      let one : weight (test y) ≡ 1 = ap weight (ap test same ∙ passes) in
      let zero_left : count_by test m.now ≡ 0 = ap (λ (z : Line). count_by test z.now) same' ∙ none in
      omega (arith, b, c, d, one, zero_left)
  fewer_lines subs (y ∷ xs) (m ∷ ls) (suc n) x l (next_line h rest) at at' passes none =
      let a = count_line subs y m h in
      let b = fewer_lines subs xs ls n x l rest at at' passes none in
      let c = count_two m.now (all_now ls) in
      let d = count_first y xs in
      omega (arith, a, b, c, d)
