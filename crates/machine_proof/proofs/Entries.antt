-- An entry of a point begins exactly where the machine stands at the point: the item's first, or the second of a long branch. And lines and
-- entries of a layout go side by side.
use Rattle.std.proofs.Common.{◌≡◌, ◌⊎◌, ℕ, zero, suc, ◌+◌, List, [], ◌∷◌, ◌++◌, map, slice_get, Contains, Some, Bool, true, false, refl}
use Rattle.std.proofs.Common.{sym, ap, ◌∙◌, subst, inl, inr, arith}
use Rattle.std.specs.List.{flat_map}
use Rattle.rv64_instr.specs.Instruction.{Instruction}
use Rattle.rv64_instr.specs.Row.{Row, Branches, row_of}
use Rattle.mir_func.specs.declared.exit.Exit.TheVariants.{Perhaps}
use Rattle.mir_func.specs.declared.item.Item.{Item}
use Rattle.mir_func.specs.declared.item.ItemKind.{ItemKind}
use Rattle.mir_func.specs.declared.item.ItemKind.TheVariants.{Code, Mark, Phi}
use Rattle.mir_func.specs.declared.position.Origin.{Origin}
use Rattle.mir_func.specs.declared.position.Pos.{Pos}
use Rattle.mir_func.specs.Exits.{row_exit, exit_of}
use Rattle.mir_func.specs.Graph.{Here, below}
use Rattle.mir_func.specs.Successors.{pos_in}
use Rattle.sem_mir.specs.Align.{is_code}
use Rattle.emit_code.specs.declared.code.EncodedInstruction.{EncodedInstruction}
use Rattle.emit_code.specs.Rule.{Layout, Form, Nothing, OneWord, CallSite, LongBranch, row_form, form_of, form_size, size_of, address_in, entry, form_entries}
use Rattle.emit_code.specs.Rule.{Site, sites_of, entries_at, entries_of}
use Rattle.emit_code.specs.Listed.{form_lines, kind_lines, lines_at}
use Rattle.emit_code.proofs.Sites.{site_from}
use Rattle.emit_code.proofs.Settled as settled
use Rattle.emit_code.proofs.Stand.{row_something, long_exits}
use Rattle.machine_steps_proof.specs.Laid.{fetched}
use Rattle.machine_steps_proof.proofs.Points.{got, dropped, stands_at}
use Rattle.machine_steps_proof.proofs.Addresses.{address_next}
use Rattle.machine_proof.specs.Lists.{IsPointAt, at_code, at_jump}
use Rattle.machine_proof.specs.Entries.{IsEntryAt, EntriesArePoints, place_of_line, place_of_entry, LinesAreEntries}

-- ---- lists

in_left : {A : Type 0} (xs ys : List A) (x : A) → Contains xs x → Contains (xs ++ ys) x
in_left [] ys x (k, lt, e) = absurd (omega (arith, lt))
in_left (a ∷ xs) ys x (zero, lt, e) = (zero, omega arith, e)
in_left (a ∷ xs) ys x (suc k, lt, e) =
    let h = in_left xs ys x (k, omega (arith, lt), e) in
    (suc h.0, (let l = h.1 in omega (arith, l)), h.2)

in_right : {A : Type 0} (xs ys : List A) (y : A) → Contains ys y → Contains (xs ++ ys) y
in_right [] ys y c = c
in_right (a ∷ xs) ys y c = let h = in_right xs ys y c in (suc h.0, (let l = h.1 in omega (arith, l)), h.2)

in_flat : (g : Site → List EncodedInstruction) (ss : List Site) (s : Site) (x : EncodedInstruction) → Contains ss s → Contains (g s) x →
    Contains (flat_map g ss) x
in_flat g [] s x (k, lt, e) c = absurd (omega (arith, lt))
in_flat g (a ∷ ss) s x (zero, lt, e) c = in_left (g a) (flat_map g ss) x (subst (λ (z : Site). Contains (g z) x) (sym e) c)
in_flat g (a ∷ ss) s x (suc k, lt, e) c = in_right (g a) (flat_map g ss) x (in_flat g ss s x (k, omega (arith, lt), e) c)

from_append : (xs ys : List EncodedInstruction) (x : EncodedInstruction) → Contains (xs ++ ys) x → Contains xs x ⊎ Contains ys x
from_append [] ys x c = inr c
from_append (a ∷ xs) ys x (zero, lt, e) = inl (zero, omega arith, e)
from_append (a ∷ xs) ys x (suc k, lt, e) = elim (from_append xs ys x (k, omega (arith, lt), e)) as (λ _. Contains (a ∷ xs) x ⊎ Contains ys x) [
  | inl h ↦ inl (suc h.0, (let l = h.1 in omega (arith, l)), h.2)
  | inr h ↦ inr h
]

from_flat : (g : Site → List EncodedInstruction) (ss : List Site) (x : EncodedInstruction) → Contains (flat_map g ss) x →
    (k : ℕ) × (s : Site) × (slice_get ss k ≡ Some s) × Contains (g s) x
from_flat g [] x (k, lt, e) = absurd (omega (arith, lt))
from_flat g (a ∷ ss) x c = by_part (from_append (g a) (flat_map g ss) x c) (λ d. from_flat g ss x d) where
  by_part : Contains (g a) x ⊎ Contains (flat_map g ss) x →
      (Contains (flat_map g ss) x → (k : ℕ) × (s : Site) × (slice_get ss k ≡ Some s) × Contains (g s) x) →
      (k : ℕ) × (s : Site) × (slice_get (a ∷ ss) k ≡ Some s) × Contains (g s) x
  by_part (inl h) more = (zero, a, refl, h)
  by_part (inr h) more = let r = more h in (suc r.0, r.1, r.2, r.3)

map_append : {A B : Type 0} (g : A → B) (xs ys : List A) → map g (xs ++ ys) ≡ map g xs ++ map g ys
map_append g [] ys = refl
map_append g (x ∷ xs) ys = ap (λ (zs : List _). g x ∷ zs) (map_append g xs ys)

-- ---- forms

code_stands : (long : Bool) (k : ItemKind) → is_code k ≡ true → form_of long k ≡ Nothing → ⊥
code_stands long (Code c n) code e = row_something long (row_of c) e
code_stands long (Mark v m) code e = cc
code_stands long (Phi p n) code e = cc

-- a conditional branch of eight bytes is long
long_row : (long : Bool) (r : Row) (n : ℕ) → row_exit r ≡ Perhaps n → form_size (row_form long r) ≡ 8 → (b : ℕ) × (row_form long r ≡ LongBranch b)
long_row true (Branches op a b t) n e size = (t, refl)
long_row false (Branches op a b t) n e size = absurd (omega (arith, size))
long_row long _ n e size = cc

long_code : (long : Bool) (k : ItemKind) (n : ℕ) → exit_of k ≡ Perhaps n → form_size (form_of long k) ≡ 8 → (b : ℕ) × (form_of long k ≡ LongBranch b)
long_code long (Code c j) n e size = long_row long (row_of c) n e size
long_code long (Mark v m) n e size = cc
long_code long (Phi p j) n e size = cc

-- what has a form is code
form_code : (long : Bool) (k : ItemKind) → (form_of long k ≡ Nothing → ⊥) → is_code k ≡ true
form_code long (Code c n) h = refl
form_code long (Mark v m) h = absurd (h refl)
form_code long (Phi p n) h = absurd (h refl)

-- a long branch is a conditional one
long_exit : (long : Bool) (k : ItemKind) (n : ℕ) → form_of long k ≡ LongBranch n → exit_of k ≡ Perhaps n
long_exit long (Code c j) n e = long_exits long (row_of c) n e
long_exit long (Mark v m) n e = cc
long_exit long (Phi p j) n e = cc

module _ (l : Layout) where
  -- the entries of an item are among the layout's
  among_all : (p : Pos) (i : Item) (x : EncodedInstruction) → fetched l.framed p ≡ Here i →
      Contains (form_entries (address_in l p) i.origin p (form_of (l.long p) i.kind)) x → Contains (entries_of l) x
  among_all p i x here c =
      let own : p.block ≡ 0 + p.block = omega arith in
      let site : Site = record { point = p; item = i } in
      let stands = site_from 0 l.framed.blocks p.block p.item _ p.block i (settled.item_at l.framed.blocks p.block p.item i here) refl own in
      in_flat (entries_at l) (sites_of l.framed) (record { point = p; item = i }) x (got (sites_of l.framed) _ (record { point = p; item = i }) stands) c

  size_at : (p : Pos) (i : Item) → fetched l.framed p ≡ Here i → address_in l (below p) ≡ address_in l p + size_of (l.long p) i
  size_at p i here =
      let s = stands_at l.framed p i here in
      let one : p.item + 1 ≡ suc p.item = omega arith in
      ap (λ (n : ℕ). address_in l (pos_in p.block n)) one
      ∙ address_next l p.block p.item s.block i (dropped l.framed.blocks p.block s.block s.rest s.found) s.at

  first_entry : (p : Pos) (i : Item) → fetched l.framed p ≡ Here i → is_code i.kind ≡ true → IsEntryAt l (address_in l p) p
  first_entry p i here code = by_form (form_of (l.long p) i.kind) refl where
    begins : (x : Form) (size : ℕ) (o : Origin) (call : Bool) → form_of (l.long p) i.kind ≡ x →
        Contains (form_entries (address_in l p) i.origin p x) (entry (address_in l p) size o p call) → IsEntryAt l (address_in l p) p
    begins x size o call e c = record {
      entry = entry (address_in l p) size o p call;
      among = among_all p i (entry (address_in l p) size o p call) here
          (subst (λ (z : Form). Contains (form_entries (address_in l p) i.origin p z) (entry (address_in l p) size o p call)) (sym e) c);
      begins = refl;
      point = refl;
    }

    by_form : (x : Form) → form_of (l.long p) i.kind ≡ x → IsEntryAt l (address_in l p) p
    by_form Nothing e = absurd (code_stands (l.long p) i.kind code e)
    by_form OneWord e = begins OneWord 4 i.origin false e (zero, omega arith, refl)
    by_form CallSite e = begins CallSite 8 i.origin true e (zero, omega arith, refl)
    by_form (LongBranch n) e = begins (LongBranch n) 4 (Rattle.emit_code.specs.Rule.added_before i.origin) false e (zero, omega arith, refl)

  second_entry : (p : Pos) (i : Item) (n : ℕ) → fetched l.framed p ≡ Here i → exit_of i.kind ≡ Perhaps n → address_in l (below p) ≡ address_in l p + 8 →
      IsEntryAt l (address_in l p + 4) p
  second_entry p i n here exit next =
      let own = size_at p i here in
      let size : form_size (form_of (l.long p) i.kind) ≡ 8 = omega (arith, own, next) in
      let long = long_code (l.long p) i.kind n exit size in
      record {
        entry = entry (address_in l p + 4) 4 i.origin p false;
        among = among_all p i (entry (address_in l p + 4) 4 i.origin p false) here
            (subst (λ (z : Form). Contains (form_entries (address_in l p) i.origin p z) (entry (address_in l p + 4) 4 i.origin p false)) (sym long.1)
            (suc zero, omega arith, refl));
        begins = refl;
        point = refl;
      }

  pub entry_at : (a : ℕ) (p : Pos) → IsPointAt l.framed (λ q. address_in l q) a p → IsEntryAt l a p
  entry_at a p (at_code i here code e) = subst (λ (n : ℕ). IsEntryAt l n p) (sym e) (first_entry p i here code)
  entry_at a p (at_jump i n here exit next e) = subst (λ (n : ℕ). IsEntryAt l n p) (sym e) (second_entry p i n here exit next)

  -- ---- from entries to points

  -- the item of a site stands at its point
  site_stands : (k : ℕ) (s : Site) → slice_get (sites_of l.framed) k ≡ Some s → fetched l.framed s.point ≡ Here s.item
  site_stands k s e =
      let p = settled.placed 0 l.framed.blocks k s e in
      let b : p.counted ≡ p.block = (let q = p.is in omega (arith, q)) in
      ap (fetched l.framed) p.point ∙ ap (λ (n : ℕ). fetched l.framed (pos_in n p.index)) b
      ∙ settled.fetched l.framed.blocks p.block p.index s.item p.item

  module _ (p : Pos) (i : Item) (here : fetched l.framed p ≡ Here i) (x : EncodedInstruction) where
    -- the entry's address and its point
    abbrev IsHere : Type 0
    IsHere = IsPointAt l.framed (λ q. address_in l q) x.address (record { block = x.point.block; item = x.point.item })

    at_first : (size : ℕ) (o : Origin) (call : Bool) → is_code i.kind ≡ true → entry (address_in l p) size o p call ≡ x → IsHere
    at_first size o call code e =
        subst (λ (z : EncodedInstruction). IsPointAt l.framed (λ q. address_in l q) z.address (record { block = z.point.block; item = z.point.item })) e
        (at_code i here code refl)

    at_second : (n : ℕ) → form_of (l.long p) i.kind ≡ LongBranch n → entry (address_in l p + 4) 4 i.origin p false ≡ x → IsHere
    at_second n form e =
        let own = size_at p i here in
        let size : size_of (l.long p) i ≡ 8 = ap form_size form in
        subst (λ (z : EncodedInstruction). IsPointAt l.framed (λ q. address_in l q) z.address (record { block = z.point.block; item = z.point.item })) e
        (at_jump i n here (long_exit (l.long p) i.kind n form) (omega (arith, own, size)) refl)

    by_form : (z : Form) → form_of (l.long p) i.kind ≡ z → Contains (form_entries (address_in l p) i.origin p z) x → IsHere
    by_form Nothing f (k, lt, e) = absurd (omega (arith, lt))
    by_form OneWord f (zero, lt, e) = at_first 4 i.origin false (form_code (l.long p) i.kind (λ none. (let bad : OneWord ≡ Nothing = sym f ∙ none in cc))) e
    by_form OneWord f (suc k, lt, e) = absurd (omega (arith, lt))
    by_form CallSite f (zero, lt, e) = at_first 8 i.origin true (form_code (l.long p) i.kind (λ none. (let bad : CallSite ≡ Nothing = sym f ∙ none in cc))) e
    by_form CallSite f (suc k, lt, e) = absurd (omega (arith, lt))
    by_form (LongBranch n) f (zero, lt, e) = at_first 4 (Rattle.emit_code.specs.Rule.added_before i.origin) false
        (form_code (l.long p) i.kind (λ none. (let bad : LongBranch n ≡ Nothing = sym f ∙ none in cc))) e
    by_form (LongBranch n) f (suc zero, lt, e) = at_second n f e
    by_form (LongBranch n) f (suc (suc k), lt, e) = absurd (omega (arith, lt))

  point_at : (a : ℕ) (p : Pos) → IsEntryAt l a p → IsPointAt l.framed (λ q. address_in l q) a p
  point_at a p at =
      let s = from_flat (entries_at l) (sites_of l.framed) at.entry at.among in
      let here = by_form s.1.point s.1.item (site_stands s.0 s.1 s.2) at.entry (form_of (l.long s.1.point) s.1.item.kind) refl s.3 in
      subst (λ (q : Pos). IsPointAt l.framed (λ r. address_in l r) a q) at.point
      (subst (λ (n : ℕ). IsPointAt l.framed (λ r. address_in l r) n (record { block = at.entry.point.block; item = at.entry.point.item })) at.begins here)

  -- ---- lines beside entries

  form_beside : (f : _) (a : ℕ) (o : Origin) (p : Pos) (c : Instruction) (x : Form) →
      map place_of_line (form_lines f a o c x) ≡ map place_of_entry (form_entries a o p x)
  form_beside f a o p c Nothing = refl
  form_beside f a o p c OneWord = refl
  form_beside f a o p c CallSite = refl
  form_beside f a o p c (LongBranch n) = refl

  site_beside : (s : Site) → map place_of_line (lines_at l s) ≡ map place_of_entry (entries_at l s)
  site_beside s = by_kind s.item.kind where
    by_kind : (k : ItemKind) →
        map place_of_line (kind_lines l s k) ≡ map place_of_entry (form_entries (address_in l s.point) s.item.origin s.point (form_of (l.long s.point) k))
    by_kind (Code c n) = form_beside l.framed (address_in l s.point) s.item.origin s.point c (form_of (l.long s.point) (Code c n))
    by_kind (Mark v m) = refl
    by_kind (Phi p n) = refl

  sites_beside : (ss : List Site) → map place_of_line (flat_map (lines_at l) ss) ≡ map place_of_entry (flat_map (entries_at l) ss)
  sites_beside [] = refl
  sites_beside (s ∷ ss) =
      map_append place_of_line (lines_at l s) (flat_map (lines_at l) ss)
      ∙ ap (λ (xs : List (ℕ × Origin)). xs ++ map place_of_line (flat_map (lines_at l) ss)) (site_beside s)
      ∙ ap (λ (xs : List (ℕ × Origin)). map place_of_entry (entries_at l s) ++ xs) (sites_beside ss)
      ∙ sym (map_append place_of_entry (entries_at l s) (flat_map (entries_at l) ss))

pub entries_are_points : EntriesArePoints
entries_are_points l a p = (point_at l a p, entry_at l a p)

pub lines_are_entries : LinesAreEntries
lines_are_entries l = sites_beside l (sites_of l.framed)
