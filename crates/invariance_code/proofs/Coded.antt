-- A function has the machine code of its code alone.
use Rattle.std.proofs.Common.{◌≡◌, ℕ, suc, ◌+◌, ℤ, pos, ◌-ℤ◌, Bool, true, false, Option, List, [], ◌∷◌, ◌++◌, map, refl, sym, ap, ◌∙◌, arith}
use Rattle.std.specs.List.{flat_map}
use Rattle.std.proofs.lemmas.List.Concat.{flat_map-append}
use Rattle.rv64_instr.specs.declared.place.Place.{Place}
use Rattle.rv64_instr.specs.Instruction.{Instruction}
use Rattle.rv64_instr.specs.Row.{row_of}
use Rattle.rv64_word.specs.Lowering.{lowered}
use Rattle.rv64_instr.specs.LocationEffects.{object_named}
use Rattle.mir_func.specs.declared.block.Block.{Block}
use Rattle.mir_func.specs.declared.exit.Exit.{Exit}
use Rattle.mir_func.specs.declared.exit.Exit.TheVariants.{Onward, Perhaps, Always, Final}
use Rattle.mir_func.specs.declared.item.Item.{Item}
use Rattle.mir_func.specs.declared.item.ItemKind.TheVariants.{Code, Mark, Phi}
use Rattle.mir_func.specs.declared.location.Loc.{Loc}
use Rattle.mir_func.specs.declared.position.Origin.{Origin}
use Rattle.mir_func.specs.declared.position.Pos.{Pos}
use Rattle.mir_func.specs.declared.variable.MarkValue.{MarkValue}
use Rattle.mir_func.specs.declared.variable.VarId.{VarId}
use Rattle.mir_func.specs.Exits.{row_exit}
use Rattle.mir_func.specs.Function.{FramedFunction}
use Rattle.mir_func.specs.Successors.{pos_in}
use Rattle.emit_code.specs.declared.code.EncodedInstruction.{EncodedInstruction}
use Rattle.emit_code.specs.LongBranch.{skip_of, jump_to}
use Rattle.emit_code.specs.Listed.{Line, listed, form_lines, lines_at, lines_of}
use Rattle.emit_code.specs.Rule.{Layout, Form, Nothing, OneWord, CallSite, LongBranch, row_form, address_in, start_of, offset_to, object_offset, operation_at}
use Rattle.emit_code.specs.Rule.{skip_operation, word_if, form_words, added_before, form_entries, Site, sites_in, sites_from}
use Rattle.emit_code.specs.Rule.{entries_at, words_at, entries_of, words_of}
use Rattle.invariance_code.proofs.Drops.{Drops, none, code, mark, phi, DropsEach, no_more, more, up, items_drop, up_in}
use Rattle.invariance_code.proofs.Settled.{lay, g, code_address, start_same, long_alone}

-- ---- what items have, one after the other

abbrev pub site : Pos → Item → Site
site p i = record { point = p; item = i }

module _ {X : Type 0} (w : Origin → Origin) (of alone : Site → List X)
    (of_mark : (p : Pos) (v : VarId) (m : MarkValue) (o : Origin) (l : Loc) → of (site p (record { kind = Mark v m; origin = o; loc = l })) ≡ [])
    (of_phi : (p : Pos) (r : Option Place) (k : ℕ) (o : Origin) (l : Loc) → of (site p (record { kind = Phi r k; origin = o; loc = l })) ≡ []) where
  -- code at a point has what the same code alone has at its point
  abbrev HasAlike : Pos → Pos → Type 0
  HasAlike p q = (c : Instruction) (k k' : Option ℕ) (o : Origin) (l l' : Loc) →
      of (site p (record { kind = Code c k; origin = o; loc = l })) ≡ alone (site q (record { kind = Code c k'; origin = w o; loc = l' }))

  in_items : {xs ys : List Item} (d : Drops w xs ys) (b n m : ℕ) →
      ((k j j' : ℕ) → j ≡ n + up d k → j' ≡ m + k → HasAlike (pos_in b j) (pos_in b j')) →
      flat_map of (sites_in b n xs) ≡ flat_map alone (sites_in b m ys)
  in_items none b n m h = refl
  in_items (code c k k' o l l' d) b n m h =
      let e = h 0 n m (omega arith) (omega arith) c k k' o l l' in
      let rest = in_items d b (suc n) (suc m) (λ r j j' is is'. h (suc r) j j' (omega arith) (omega arith)) in
      λ i. e i ++ rest i
  in_items (mark v x o l {xs = xs} d) b n m h =
      let rest = in_items d b (suc n) m (λ r j j' is is'. h r j j' (omega arith) is') in
      ap (λ (t : List X). t ++ flat_map of (sites_in b (suc n) xs)) (of_mark (pos_in b n) v x o l) ∙ rest
  in_items (phi p k o l {xs = xs} d) b n m h =
      let rest = in_items d b (suc n) m (λ r j j' is is'. h r j j' (omega arith) is') in
      ap (λ (t : List X). t ++ flat_map of (sites_in b (suc n) xs)) (of_phi (pos_in b n) p k o l) ∙ rest

  in_blocks : {bs cs : List Block} (ds : DropsEach w bs cs) (b : ℕ) →
      ((c a n : ℕ) → a ≡ b + c → HasAlike (pos_in a (up (items_drop ds c) n)) (pos_in a n)) →
      flat_map of (sites_from b bs) ≡ flat_map alone (sites_from b cs)
  in_blocks no_more b h = refl
  in_blocks (more id s s' {xs = xs} {ys = ys} {bs = bs} {cs = cs} d ds) b h =
      let first = in_items d b 0 0 (λ k j j' is is'.
      let at : j ≡ up d k = omega arith in let at' : j' ≡ k = omega arith in rw (at, at') (h 0 b k (omega arith))) in
      let rest = in_blocks ds (suc b) (λ c a n is. h (suc c) a n (omega arith)) in
      flat_map-append of (sites_in b 0 xs) (sites_from (suc b) bs) ∙ (λ i. first i ++ rest i)
      ∙ sym (flat_map-append alone (sites_in b 0 ys) (sites_from (suc b) cs))

  pub in_all : {bs cs : List Block} (ds : DropsEach w bs cs) → ((p : Pos) → HasAlike (up_in ds p) p) →
      flat_map of (sites_from 0 bs) ≡ flat_map alone (sites_from 0 cs)
  in_all ds h = in_blocks ds 0 (λ c a n is. let at : c ≡ a = omega arith in rw at (h (pos_in a n)))

-- a map of lists that are put together
pub map_flat : {X Y Z : Type 0} (see : Y → Z) (of : X → List Y) (xs : List X) → map see (flat_map of xs) ≡ flat_map (λ x. map see (of x)) xs
map_flat see of [] = refl
map_flat see of (x ∷ xs) = map_both see (of x) (flat_map of xs) ∙ ap (λ t. map see (of x) ++ t) (map_flat see of xs)
  where
    map_both : {Y Z : Type 0} (see : Y → Z) (xs ys : List Y) → map see (xs ++ ys) ≡ map see xs ++ map see ys
    map_both see [] ys = refl
    map_both see (x ∷ xs) ys = ap (λ t. see x ∷ t) (map_both see xs ys)

-- ---- machine code

-- an entry without its point, and with what is left of its origin
abbrev pub entry_seen : (Origin → Origin) → EncodedInstruction → EncodedInstruction
entry_seen w e = record { address = e.address; size = e.size; origin = w e.origin; point = record { block = 0; item = 0 }; call = e.call }

-- a line with what is left of its origin
abbrev pub line_seen : (Origin → Origin) → Line → Line
line_seen w x = record { address = x.address; origin = w x.origin; instruction = x.instruction }

-- what is left of an origin is left of it again, before and after a word is added
pub record Leaves (w : Origin → Origin) : Type 0 where
  pub twice : (o : Origin) → w (w o) ≡ w o
  pub before : (o : Origin) → w (added_before (w o)) ≡ w (added_before o)

-- two layouts have the same machine code, but for points and origins
pub record CodedBy (w : Origin → Origin) (l m : Layout) : Type 0 where
  pub words : words_of l ≡ words_of m
  pub entries : map (entry_seen w) (entries_of l) ≡ map (entry_seen w) (entries_of m)
  pub lines : map (line_seen w) (lines_of l) ≡ map (line_seen w) (lines_of m)

module _ {w : Origin → Origin} (leaves : Leaves w) where
  entries_same : (a : ℕ) (o : Origin) (p q : Pos) (form : Form) →
      map (entry_seen w) (form_entries a o p form) ≡ map (entry_seen w) (form_entries a (w o) q form)
  entries_same a o p q Nothing = refl
  entries_same a o p q OneWord =
      let e = sym (leaves.twice o) in λ i. record { address = a; size = 4; origin = e i; point = record { block = 0; item = 0 }; call = false } ∷ []
  entries_same a o p q CallSite =
      let e = sym (leaves.twice o) in λ i. record { address = a; size = 8; origin = e i; point = record { block = 0; item = 0 }; call = true } ∷ []
  entries_same a o p q (LongBranch n) =
      let e = sym (leaves.twice o) in
      let skip = sym (leaves.before o) in
      λ i. record { address = a; size = 4; origin = skip i; point = record { block = 0; item = 0 }; call = false }
      ∷ record { address = a + 4; size = 4; origin = e i; point = record { block = 0; item = 0 }; call = false } ∷ []

  lines_same : (f : FramedFunction) (a : ℕ) (o : Origin) (c : Instruction) (form : Form) →
      map (line_seen w) (form_lines f a o c form) ≡ map (line_seen w) (form_lines f a (w o) c form)
  lines_same f a o c Nothing = refl
  lines_same f a o c OneWord = let e = sym (leaves.twice o) in λ i. record { address = a; origin = e i; instruction = listed f c } ∷ []
  lines_same f a o c CallSite = let e = sym (leaves.twice o) in λ i. record { address = a; origin = e i; instruction = listed f c } ∷ []
  lines_same f a o c (LongBranch n) =
      let e = sym (leaves.twice o) in
      let skip = sym (leaves.before o) in
      λ i. record { address = a; origin = skip i; instruction = skip_of c } ∷ record { address = a + 4; origin = e i; instruction = jump_to n } ∷ []

-- the frame is all that lines need of the function
frame_lines : (f : FramedFunction) (cs : List Block) (a : ℕ) (o : Origin) (c : Instruction) (form : Form) →
    form_lines f a o c form ≡ form_lines (record f { blocks = cs }) a o c form
frame_lines f cs a o c form = refl

module _ {w : Origin → Origin} (leaves : Leaves w) (f : FramedFunction) (base : ℕ) (long : Pos → Bool) {cs : List Block} (ds : DropsEach w f.blocks cs) where
  abbrev l : Layout
  l = lay f base long

  abbrev m : Layout
  m = lay (g f base ds) base (long_alone f base ds long)

  start : (n : ℕ) → start_of l n ≡ start_of m n
  start n = start_same f base ds long (long_alone f base ds long) (λ p. refl) n

  here : (p : Pos) → address_in l (up_in ds p) ≡ address_in m p
  here p = code_address f base ds long (long_alone f base ds long) (λ q. refl) p

  offset_same : (a : ℕ) (x : Exit) → offset_to l a x ≡ offset_to m a x
  offset_same a Onward = refl
  offset_same a (Perhaps n) = ap (λ (t : ℕ). pos t -ℤ pos a) (start n)
  offset_same a (Always n) = ap (λ (t : ℕ). pos t -ℤ pos a) (start n)
  offset_same a Final = refl

  operation_same : (a : ℕ) (c : Instruction) → operation_at l a c ≡ operation_at m a c
  operation_same a c =
      ap (λ (t : ℤ). lowered t (object_offset f (object_named (row_of c))) c) (offset_same a (row_exit (row_of c)))

  words_same : (a : ℕ) (c : Instruction) (form : Form) → form_words l a c form ≡ form_words m a c form
  words_same a c Nothing = refl
  words_same a c OneWord = ap word_if (operation_same a c)
  words_same a c CallSite = refl
  words_same a c (LongBranch n) = ap (λ (t : List ℕ). word_if (skip_operation c) ++ t) (ap word_if (operation_same (a + 4) (jump_to n)))

  pub coded_alone : CodedBy w l m
  coded_alone = record {
    words = in_all w (words_at l) (words_at m) (λ p v x o t. refl) (λ p r k o t. refl) ds (λ p c k k' o t t'.
        words_same (address_in l (up_in ds p)) c (row_form (long (up_in ds p)) (row_of c))
        ∙ ap (λ (a : ℕ). form_words m a c (row_form (long (up_in ds p)) (row_of c))) (here p));
    entries =
        map_flat (entry_seen w) (entries_at l) (sites_from 0 f.blocks)
        ∙ in_all w (λ s. map (entry_seen w) (entries_at l s)) (λ s. map (entry_seen w) (entries_at m s)) (λ p v x o t. refl) (λ p r k o t. refl) ds
        (λ p c k k' o t t'.
        entries_same leaves (address_in l (up_in ds p)) o (up_in ds p) p (row_form (long (up_in ds p)) (row_of c))
        ∙ ap (λ (a : ℕ). map (entry_seen w) (form_entries a (w o) p (row_form (long (up_in ds p)) (row_of c)))) (here p))
        ∙ sym (map_flat (entry_seen w) (entries_at m) (sites_from 0 cs));
    lines =
        map_flat (line_seen w) (lines_at l) (sites_from 0 f.blocks)
        ∙ in_all w (λ s. map (line_seen w) (lines_at l s)) (λ s. map (line_seen w) (lines_at m s)) (λ p v x o t. refl) (λ p r k o t. refl) ds
        (λ p c k k' o t t'.
        lines_same leaves f (address_in l (up_in ds p)) o c (row_form (long (up_in ds p)) (row_of c))
        ∙ ap (map (line_seen w)) (frame_lines f cs (address_in l (up_in ds p)) (w o) c (row_form (long (up_in ds p)) (row_of c)))
        ∙ ap (λ (a : ℕ). map (line_seen w) (form_lines m.framed a (w o) c (row_form (long (up_in ds p)) (row_of c)))) (here p))
        ∙ sym (map_flat (line_seen w) (lines_at m) (sites_from 0 cs));
  }
