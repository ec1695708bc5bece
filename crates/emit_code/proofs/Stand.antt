-- The entries of a layout stand one after the other to the end of its words, each at an item.
use Rattle.std.proofs.Common.{◌≡◌, ℕ, suc, ◌+◌, ◌*◌, ◌%◌, ◌<◌, Bool, true, false, List, [], ◌∷◌, ◌++◌, length, take, drop, Option, Some, None, refl, sym, ap}
use Rattle.std.proofs.Common.{subst, ◌∙◌, arith}
use Rattle.std.specs.Prelude.{sum_by, slice_get, IsSome, All}
use Rattle.std.specs.List.{flat_map}
use Rattle.std.proofs.lemmas.List.{length-append, take_all}
use Rattle.std.proofs.lemmas.List.Elements.{All-nil, All-cons, All-append}
use Rattle.std.proofs.lemmas.List.Sums.{sum_by-cons}
use Rattle.rv64_instr.specs.Instruction.{Instruction}
use Rattle.rv64_instr.specs.LocationEffects.{has_site}
use Rattle.rv64_instr.specs.Row.{Row, Calls, row_of, Returns, Callee, Way, Back, Tail, Never}
use Rattle.rv64_word.specs.declared.machine_op.MachineOp.{MachineOp}
use Rattle.mir_func.specs.declared.item.Item.{Item}
use Rattle.mir_func.specs.declared.item.ItemKind.{ItemKind}
use Rattle.mir_func.specs.declared.item.ItemKind.TheVariants.{Code, Mark, Phi}
use Rattle.mir_func.specs.declared.position.Origin.{Origin}
use Rattle.mir_func.specs.declared.position.Pos.{Pos}
use Rattle.mir_func.specs.Function.{FramedFunction}
use Rattle.mir_func.specs.Graph.{Here, fetch_in}
use Rattle.mir_func.specs.Successors.{pos_in}
use Rattle.mir_func.specs.declared.exit.Exit.{Exit}
use Rattle.mir_func.specs.declared.exit.Exit.TheVariants.{Onward, Perhaps, Always, Final}
use Rattle.mir_func.specs.Exits.{row_exit}
use Rattle.emit_code.specs.declared.code.EncodedInstruction.{EncodedInstruction}
use Rattle.emit_code.specs.Counts.{MAX_BASE, count_of}
use Rattle.emit_code.specs.Laid.{StandFrom, IsOfItem, IsCode, is_site_kind, FormWorded, IsWorded}
use Rattle.emit_code.specs.Rule as rule
use Rattle.emit_code.specs.Rule.{Layout, Site, Form, form_of, form_size, row_form, form_words, form_entries, kind_words, words_at, entries_at, address_in}
use Rattle.emit_code.specs.Rule.{word_if, entry, added_before, sites_of, words_of, entries_of, exit_form, site_words, way_words}
use Rattle.emit_code.proofs.Bounds.{before_small}
use Rattle.emit_code.proofs.Settled.{placed, fetched, in_range}
use Rattle.emit_code.proofs.Sites.{site_size, bytes_at, blocks_sum}

-- ---- one after the other

form_stands : (f : Form) (a b : ℕ) (o : Origin) (p : Pos) (rest : List EncodedInstruction) (end : ℕ) → b ≡ a + form_size f → StandFrom b rest end →
    StandFrom a (form_entries a o p f ++ rest) end
form_stands rule.Nothing a b o p rest end e h = let same : b ≡ a = omega arith in subst (λ (x : ℕ). StandFrom x rest end) same h
form_stands rule.OneWord a b o p rest end e h = (refl, refl, subst (λ (x : ℕ). StandFrom x rest end) e h)
form_stands rule.CallSite a b o p rest end e h = (refl, refl, subst (λ (x : ℕ). StandFrom x rest end) e h)
form_stands (rule.LongBranch n) a b o p rest end e h =
    let same : b ≡ a + 4 + 4 = omega arith in (refl, refl, (refl, refl, subst (λ (x : ℕ). StandFrom x rest end) same h))

stand_sites : (l : Layout) (sites : List Site) (a : ℕ) →
    ((j : ℕ) (s : Site) → slice_get sites j ≡ Some s → address_in l s.point ≡ a + sum_by (site_size l.long) (take j sites)) →
    StandFrom a (flat_map (entries_at l) sites) (a + sum_by (site_size l.long) sites)
stand_sites l [] a each = omega arith
stand_sites l (s ∷ sites) a each =
    let size = site_size l.long s in
    let here : address_in l s.point ≡ a = let e = each 0 s refl in omega (arith, e) in
    let rest = stand_sites l sites (a + size) (λ j x e. omega (arith, each (suc j) x e, sum_by-cons (site_size l.long) s (take j sites))) in
    let end : a + size + sum_by (site_size l.long) sites ≡ a + sum_by (site_size l.long) (s ∷ sites) = omega (arith, sum_by-cons (site_size l.long) s sites) in
    let made = form_stands (form_of (l.long s.point) s.item.kind) (address_in l s.point) (a + size) s.item.origin s.point (flat_map (entries_at l) sites)
    (a + sum_by (site_size l.long) (s ∷ sites)) (omega (arith, here)) (subst (λ (x : ℕ). StandFrom (a + size) (flat_map (entries_at l) sites) x) end rest) in
    subst (λ (x : ℕ). StandFrom x (entries_at l s ++ flat_map (entries_at l) sites) (a + sum_by (site_size l.long) (s ∷ sites))) here made

-- ---- words

some_length : (o : Option MachineOp) → IsSome o → length (word_if o) ≡ 1
some_length None h = absurd cc
some_length (Some m) h = omega arith

way_length : (w : Way Callee) → length (way_words w) ≡ 2
way_length Back = refl
way_length (Tail callee) = refl
way_length (Never callee) = refl

pub site_length : (r : Row) → length (site_words r) ≡ 2
site_length (Returns ending) = way_length ending.way
site_length _ = refl

form_length : (l : Layout) (a : ℕ) (c : Instruction) (f : Form) → FormWorded l a c f → (f ≡ rule.Nothing → ⊥) → 4 * length (form_words l a c f) ≡ form_size f
form_length l a c rule.Nothing h some = absurd (some refl)
form_length l a c rule.OneWord h some = omega (arith, some_length _ h)
form_length l a c rule.CallSite h some = let two = site_length (row_of c) in omega (arith, two)
form_length l a c (rule.LongBranch n) h some = omega (
  arith,
  some_length _ h.0,
  some_length _ h.1,
  length-append (word_if (rule.skip_operation c)) (word_if
      (rule.jump_operation l a n)),
)

exit_something : (b : Bool) (x : Exit) (site : Bool) → exit_form b x site ≡ rule.Nothing → ⊥
exit_something true (Perhaps n) site e = cc
exit_something false (Perhaps n) site e = cc
exit_something b (Always n) site e = cc
exit_something b Onward true e = cc
exit_something b Onward false e = cc
exit_something b Final true e = cc
exit_something b Final false e = cc

pub row_something : (b : Bool) (row : Row) → row_form b row ≡ rule.Nothing → ⊥
row_something b row e = exit_something b (row_exit row) (has_site row) e

exit_long : (long : Bool) (x : Exit) (site : Bool) (n : ℕ) → exit_form long x site ≡ rule.LongBranch n → x ≡ Perhaps n
exit_long true (Perhaps m) site n e = let same : m ≡ n = cc in ap Perhaps same
exit_long false (Perhaps m) site n e = cc
exit_long long (Always m) site n e = cc
exit_long long Onward true n e = cc
exit_long long Onward false n e = cc
exit_long long Final true n e = cc
exit_long long Final false n e = cc

-- a long branch is a conditional one
pub long_exits : (long : Bool) (row : Row) (n : ℕ) → row_form long row ≡ rule.LongBranch n → row_exit row ≡ Perhaps n
long_exits long row n e = exit_long long (row_exit row) (has_site row) n e

kind_length : (l : Layout) (p : Pos) (kind : ItemKind) → ((c : Instruction) (k : Option ℕ) → kind ≡ Code c k →
    FormWorded l (address_in l p) c (row_form (l.long p) (row_of c))) →
    4 * length (kind_words l p kind) ≡ form_size (form_of (l.long p) kind)
kind_length l p (Code c k) has = form_length l (address_in l p) c (row_form (l.long p) (row_of c)) (has c k refl) (row_something (l.long p) (row_of c))
kind_length l p (Mark v m) has = omega arith
kind_length l p (Phi r k) has = omega arith

words_length : (l : Layout) (sites : List Site) →
    ((j : ℕ) (s : Site) → slice_get sites j ≡ Some s → (c : Instruction) (k : Option ℕ) → s.item.kind ≡ Code c k →
    FormWorded l (address_in l s.point) c (row_form (l.long s.point) (row_of c))) →
    4 * length (flat_map (words_at l) sites) ≡ sum_by (site_size l.long) sites
words_length l [] each = omega arith
words_length l (s ∷ sites) each =
    omega (
      arith,
      kind_length l s.point s.item.kind (each 0 s refl),
      length-append (words_at l s) (flat_map (words_at l) sites),
      sum_by-cons (site_size l.long) s sites,
      words_length l sites (λ j x e. each (suc j) x e),
    )

-- ---- of a layout

site_address : (l : Layout) (k : ℕ) (s : Site) → slice_get (sites_of l.framed) k ≡ Some s →
    address_in l s.point ≡ l.base + sum_by (site_size l.long) (take k (sites_of l.framed))
site_address l k s e =
    let at = placed 0 l.framed.blocks k s e in
    let here = in_range _ at.index s.item at.item in
    let bytes = bytes_at l.long l.framed.blocks at.block at.index (omega (arith, here)) in
    let point : s.point ≡ pos_in at.block at.index = at.point ∙ (let z : at.counted ≡ at.block = omega (arith, at.is) in ap (λ (b : ℕ). pos_in b at.index) z) in
    ap (address_in l) point ∙ ap (λ (x : ℕ). l.base + x) (bytes ∙ ap (λ (j : ℕ). sum_by (site_size l.long) (take j (sites_of l.framed))) (sym at.rank))

pub stands : (l : Layout) → StandFrom l.base (entries_of l) (l.base + sum_by (site_size l.long) (sites_of l.framed))
stands l = stand_sites l (sites_of l.framed) l.base (site_address l)

fetched_site : (l : Layout) (k : ℕ) (s : Site) → slice_get (sites_of l.framed) k ≡ Some s →
    fetch_in (drop s.point.block l.framed.blocks) s.point.item ≡ Here s.item
fetched_site l k s e =
    let at = placed 0 l.framed.blocks k s e in
    let point : s.point ≡ pos_in at.block at.index = at.point ∙ (let z : at.counted ≡ at.block = omega (arith, at.is) in ap (λ (b : ℕ). pos_in b at.index) z) in
    ap (λ (p : Pos). fetch_in (drop p.block l.framed.blocks) p.item) point ∙ fetched l.framed.blocks at.block at.index s.item at.item

pub words_fill : (l : Layout) → IsWorded l → 4 * length (words_of l) ≡ sum_by (site_size l.long) (sites_of l.framed)
words_fill l worded = words_length l (sites_of l.framed) (λ j s e c k is. worded s.point s.item c k (fetched_site l j s e) is)

pub words_few : (l : Layout) → IsWorded l → count_of l.framed.blocks < 262144 → length (words_of l) < 262144
words_few l worded few =
    let blocks = l.framed.blocks in
    let small = before_small l.long 0 blocks (length blocks) 0 0 in
    let all : take (length blocks) blocks ≡ blocks = take_all (length blocks) blocks (omega arith) in
    omega (arith, words_fill l worded, small, few, ap (rule.blocks_size l.long 0) all, blocks_sum l.long 0 blocks)

-- ---- at items

module _ (f : FramedFunction) (i : Item) (p : Pos) (at : fetch_in (drop p.block f.blocks) p.item ≡ Here i) where
  one_of : (a n : ℕ) (o : Origin) (call : Bool) → is_site_kind i.kind ≡ call → IsOfItem f (entry a n o p call)
  one_of a n o call e = record { item = i; stands = at; call = sym e }

  only : (a n : ℕ) (o : Origin) (call : Bool) → is_site_kind i.kind ≡ call → All (IsOfItem f) (entry a n o p call ∷ [])
  only a n o call e = All-cons (IsOfItem f) (entry a n o p call) [] (one_of a n o call e) (All-nil (IsOfItem f))

  exit_items : (a : ℕ) (o : Origin) (long : Bool) (x : Exit) (site : Bool) → is_site_kind i.kind ≡ site → ((n : ℕ) → x ≡ Perhaps n → site ≡ false) →
      ((n : ℕ) → x ≡ Always n → site ≡ false) → All (IsOfItem f) (form_entries a o p (exit_form long x site))
  exit_items a o true (Perhaps n) site e branch jump =
      let none = e ∙ branch n refl in
      All-cons (IsOfItem f) (entry a 4 (added_before o) p false) (entry (a + 4) 4 o p false ∷ []) (one_of a 4 (added_before o) false none) (only (a + 4) 4 o
      false none)
  exit_items a o false (Perhaps n) site e branch jump = only a 4 o false (e ∙ branch n refl)
  exit_items a o long (Always n) site e branch jump = only a 4 o false (e ∙ jump n refl)
  exit_items a o long Onward true e branch jump = only a 8 o true e
  exit_items a o long Onward false e branch jump = only a 4 o false e
  exit_items a o long Final true e branch jump = only a 8 o true e
  exit_items a o long Final false e branch jump = only a 4 o false e

  -- branches and jumps have no callee
  branch_no_site : (row : Row) (n : ℕ) → row_exit row ≡ Perhaps n → has_site row ≡ false
  branch_no_site (Calls call) n e = cc
  branch_no_site (Returns ending) n e = cc
  branch_no_site _ n e = refl

  jump_no_site : (row : Row) (n : ℕ) → row_exit row ≡ Always n → has_site row ≡ false
  jump_no_site (Calls call) n e = cc
  jump_no_site (Returns ending) n e = cc
  jump_no_site _ n e = refl

  row_items : (a : ℕ) (o : Origin) (long : Bool) (row : Row) → is_site_kind i.kind ≡ has_site row → All (IsOfItem f) (form_entries a o p (row_form long row))
  row_items a o long row e = exit_items a o long (row_exit row) (has_site row) e (branch_no_site row) (jump_no_site row)

  kind_items : (a : ℕ) (o : Origin) (long : Bool) (kind : ItemKind) → i.kind ≡ kind → All (IsOfItem f) (form_entries a o p (form_of long kind))
  kind_items a o long (Code c k) e = row_items a o long (row_of c) (ap is_site_kind e)
  kind_items a o long (Mark v m) e = All-nil (IsOfItem f)
  kind_items a o long (Phi r k) e = All-nil (IsOfItem f)

sites_items : (l : Layout) (sites : List Site) →
    ((j : ℕ) (s : Site) → slice_get sites j ≡ Some s → fetch_in (drop s.point.block l.framed.blocks) s.point.item ≡ Here s.item) →
    All (IsOfItem l.framed) (flat_map (entries_at l) sites)
sites_items l [] each = All-nil (IsOfItem l.framed)
sites_items l (s ∷ sites) each =
    All-append (IsOfItem l.framed) (entries_at l s) (flat_map (entries_at l) sites)
    (kind_items l.framed s.item s.point (each 0 s refl) (address_in l s.point) s.item.origin (l.long s.point) s.item.kind refl)
    (sites_items l sites (λ j x e. each (suc j) x e))

pub items_stand : (l : Layout) → All (IsOfItem l.framed) (entries_of l)
items_stand l = sites_items l (sites_of l.framed) (fetched_site l)

-- the machine code of a worded layout is sound
pub sound_code : (l : Layout) → IsWorded l → count_of l.framed.blocks < 262144 → l.base % 4 ≡ 0 → l.base < MAX_BASE →
    IsCode (record { base = l.base; words = words_of l; entries = entries_of l; framed = l.framed })
sound_code l worded few aligned low = record {
  aligned = aligned;
  low = low;
  few = words_few l worded few;
  stand = subst (λ (n : ℕ). StandFrom l.base (entries_of l) (l.base + n)) (sym (words_fill l worded)) (stands l);
  items = items_stand l;
}
