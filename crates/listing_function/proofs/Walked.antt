-- The walks over the items of a block and over blocks, beside the entries.
use Rattle.std.proofs.Common.{◌≡◌, ℕ, suc, ◌+◌, ◌<◌, List, [], ◌∷◌, ◌++◌, length, get_or, drop, ap, sym, subst, ◌∙◌, arith}
use Rattle.std.specs.List.{flat_map}
use Rattle.std.proofs.lemmas.List.{append_assoc}
use Rattle.std.proofs.lemmas.List.Concat.{flat_map-append}
use Rattle.mir_func.specs.declared.block.Block.{Block}
use Rattle.mir_func.specs.declared.item.Item.{Item}
use Rattle.mir_func.specs.declared.position.Pos.{Pos}
use Rattle.mir_func.specs.declared.position.ProgramPoint.{ProgramPoint}
use Rattle.mir_func.specs.Successors.{pos_in}
use Rattle.emit_code.specs.declared.code.EncodedInstruction.{EncodedInstruction}
use Rattle.emit_code.specs.Rule.{Layout, Site, Form, Nothing, OneWord, CallSite, LongBranch, form_of, form_entries, address_in, entries_at, sites_in}
use Rattle.emit_code.specs.Rule.{sites_from}
use Rattle.emit_code.specs.steps.Emitted.{point_of}
use Rattle.listing_text.specs.declared.output.Line.{Line}
use Rattle.listing_text.specs.declared.output.ListedBlock.{ListedBlock}
use Rattle.listing_meaning.specs.Listing.{site_lines, items_listed, blocks_listed}
use Rattle.listing_function.specs.steps.Entries.{BeginsApart, StandsAt}
use Rattle.listing_function.proofs.Steps.{split_at}

module _ (l : Layout) where
  -- what is listed of a block's items, of which some are left from an index on, and what is left of the entries
  pub record ItemsSoFar (b n : ℕ) (left : List Item) (entries : List EncodedInstruction) (at : ℕ) (others : List EncodedInstruction)
      (lines whole : List Line) : Type 0 where
    pub lined : lines ++ flat_map (site_lines l) (sites_in b n left) ≡ whole
    pub here : drop at entries ≡ flat_map (entries_at l) (sites_in b n left) ++ others

  -- ---- the entries of what follows are of other points

  by_form : (a : ℕ) (p q : Pos) (i : Item) (f : Form) (more : List EncodedInstruction) → (point_of q ≡ point_of p → ⊥) → BeginsApart p more → BeginsApart p
      (form_entries a i.origin q f ++ more)
  by_form a p q i Nothing more apart rest = rest
  by_form a p q i OneWord more apart rest = apart
  by_form a p q i CallSite more apart rest = apart
  by_form a p q i (LongBranch n) more apart rest = apart

  site_apart : (p : Pos) (s : Site) (more : List EncodedInstruction) → (point_of s.point ≡ point_of p → ⊥) → BeginsApart p more →
      BeginsApart p (entries_at l s ++ more)
  site_apart p s more apart rest = by_form (address_in l s.point) p s.point s.item (form_of (l.long s.point) s.item.kind) more apart rest

  assoc_apart : (p : Pos) (x y z : List EncodedInstruction) → BeginsApart p (x ++ (y ++ z)) → BeginsApart p ((x ++ y) ++ z)
  assoc_apart p x y z apart = subst (BeginsApart p) (sym (append_assoc x y z)) apart

  later_item : (b m n : ℕ) → m < n → point_of (pos_in b n) ≡ point_of (pos_in b m) → ⊥
  later_item b m n less e = let same : n ≡ m = ap (λ (q : ProgramPoint). q.item) e in omega (arith, same)

  items_apart : (b m n : ℕ) (items : List Item) (others : List EncodedInstruction) → m < n → BeginsApart (pos_in b m) others →
      BeginsApart (pos_in b m) (flat_map
      (entries_at l) (sites_in b n items) ++ others)
  items_apart b m n [] others less rest = rest
  items_apart b m n (i ∷ items) others less rest =
      let s : Site = record { point = pos_in b n; item = i } in
      assoc_apart (pos_in b m) (entries_at l s) (flat_map (entries_at l) (sites_in b (suc n) items)) others
      (site_apart (pos_in b m) s (flat_map (entries_at l) (sites_in b (suc n) items) ++ others) (later_item b m n less)
      (items_apart b m (suc n) items others (omega arith) rest))

  -- ---- one item more

  abbrev pub Rest : (b n : ℕ) → List Item → List EncodedInstruction → List EncodedInstruction
  Rest b n items others = flat_map (entries_at l) (sites_in b n items) ++ others

  pub item_stands : (b n : ℕ) (items : List Item) (i : Item) (entries others : List EncodedInstruction) (at : ℕ) (lines whole : List Line) → n < length items →
      i ≡ get_or items n i → BeginsApart (pos_in b n) others → ItemsSoFar b n (drop n items) entries at others lines whole →
      StandsAt l entries at (record { point = pos_in b n; item = i }) (Rest b (suc n) (drop (n + 1) items) others)
  item_stands b n items i entries others at lines whole less is apart so = record {
    here = so.here ∙ ap (λ (t : List Item). flat_map (entries_at l) (sites_in b n t) ++ others) (split_at items n i less is)
        ∙ append_assoc (entries_at l (record { point = pos_in b n; item = i })) (flat_map (entries_at l) (sites_in b (suc n) (drop (n + 1) items))) others;
    apart = items_apart b n (suc n) (drop (n + 1) items) others (omega arith) apart;
  }

  pub item_more : (b n : ℕ) (items : List Item) (i : Item) (entries others : List EncodedInstruction) (at next : ℕ) (lines new whole : List Line) →
      n < length items →
      i ≡ get_or items n i → ItemsSoFar b n (drop n items) entries at others lines whole →
      (new ≡ lines ++ site_lines l (record { point = pos_in b n; item = i })) × (drop next entries ≡ Rest b (suc n) (drop (n + 1) items) others) →
      ItemsSoFar b (n + 1) (drop (n + 1) items) entries next others new whole
  item_more b n items i entries others at next lines new whole less is so step =
      let s : Site = record { point = pos_in b n; item = i } in
      let rest = drop (n + 1) items in
      let index : suc n ≡ n + 1 = omega arith in
      subst (λ (m : ℕ). ItemsSoFar b m rest entries next others new whole) index (record {
        lined = ap (λ (t : List Line). t ++ flat_map (site_lines l) (sites_in b (suc n) rest)) step.0
            ∙ append_assoc lines (site_lines l s) (flat_map (site_lines l) (sites_in b (suc n) rest))
            ∙ ap (λ (t : List Item). lines ++ flat_map (site_lines l) (sites_in b n t)) (sym (split_at items n i less is)) ∙ so.lined;
        here = step.1;
      })

  -- ---- one block more

  -- what is listed of blocks, of which some are left from an index on, and what is left of the entries
  pub record BlocksSoFar (b : ℕ) (left : List Block) (entries : List EncodedInstruction) (at : ℕ) (blocks whole : List ListedBlock) : Type 0 where
    pub listed : blocks ++ blocks_listed l b left ≡ whole
    pub here : drop at entries ≡ flat_map (entries_at l) (sites_from b left)

  later_block : (b c m n : ℕ) → b < c → point_of (pos_in c n) ≡ point_of (pos_in b m) → ⊥
  later_block b c m n less e = let same : c ≡ b = ap (λ (q : ProgramPoint). q.block) e in omega (arith, same)

  items_apart_of : (b c m n : ℕ) (items : List Item) (others : List EncodedInstruction) → b < c → BeginsApart (pos_in b m) others →
      BeginsApart (pos_in b m) (flat_map
      (entries_at l) (sites_in c n items) ++ others)
  items_apart_of b c m n [] others less rest = rest
  items_apart_of b c m n (i ∷ items) others less rest =
      let s : Site = record { point = pos_in c n; item = i } in
      assoc_apart (pos_in b m) (entries_at l s) (flat_map (entries_at l) (sites_in c (suc n) items)) others
      (site_apart (pos_in b m) s (flat_map (entries_at l) (sites_in c (suc n) items) ++ others) (later_block b c m n less)
      (items_apart_of b c m (suc n) items others less rest))

  pub blocks_apart : (b c m : ℕ) (blocks : List Block) → b < c → BeginsApart (pos_in b m) (flat_map (entries_at l) (sites_from c blocks))
  blocks_apart b c m [] less = tt
  blocks_apart b c m (block ∷ blocks) less =
      subst (BeginsApart (pos_in b m)) (sym (flat_map-append (entries_at l) (sites_in c 0 block.items) (sites_from (suc c) blocks)))
      (items_apart_of b c m 0 block.items (flat_map (entries_at l) (sites_from (suc c) blocks)) less (blocks_apart b (suc c) m blocks (omega arith)))

  pub block_here : (b : ℕ) (blocks : List Block) (n : ℕ) (block : Block) (entries : List EncodedInstruction) (at : ℕ) (listed whole : List ListedBlock) →
      n < length blocks →
      block ≡ get_or blocks n block → BlocksSoFar (b + n) (drop n blocks) entries at listed whole →
      drop at entries ≡ flat_map (entries_at l) (sites_in (b + n) 0 block.items) ++ flat_map (entries_at l) (sites_from (suc (b + n)) (drop (n + 1) blocks))
  block_here b blocks n block entries at listed whole less is so =
      so.here ∙ ap (λ (t : List Block). flat_map (entries_at l) (sites_from (b + n) t)) (split_at blocks n block less is)
      ∙ flat_map-append (entries_at l) (sites_in (b + n) 0 block.items) (sites_from (suc (b + n)) (drop (n + 1) blocks))

  pub block_more : (b : ℕ) (blocks : List Block) (n : ℕ) (block : Block) (entries : List EncodedInstruction) (at next : ℕ) (lines : List Line)
      (listed new whole : List ListedBlock) → n < length blocks → block ≡ get_or blocks n block → BlocksSoFar (b + n) (drop n blocks) entries at listed whole →
      lines ≡ items_listed l (b + n) block.items → drop next entries ≡ flat_map (entries_at l) (sites_from (suc (b + n)) (drop (n + 1) blocks)) →
      new ≡ listed ++ record { id = block.id; lines = lines } ∷ [] → BlocksSoFar (b + (n + 1)) (drop (n + 1) blocks) entries next new whole
  block_more b blocks n block entries at next lines listed new whole less is so lined here pushed =
      let rest = drop (n + 1) blocks in
      let one : ListedBlock = record { id = block.id; lines = items_listed l (b + n) block.items } in
      let index : suc (b + n) ≡ b + (n + 1) = omega arith in
      subst (λ (m : ℕ). BlocksSoFar m rest entries next new whole) index (record {
        listed = ap (λ (t : List ListedBlock). t ++ blocks_listed l (suc (b + n)) rest) (pushed ∙ ap (λ (t : List Line). listed ++ record {
          id = block.id;
          lines = t;
        } ∷ []) lined)
            ∙ append_assoc listed (one ∷ []) (blocks_listed l (suc (b + n)) rest)
            ∙ ap (λ (t : List Block). listed ++ blocks_listed l (b + n) t) (sym (split_at blocks n block less is)) ∙ so.listed;
        here = here;
      })

  -- all of them, the prologue first
  pub whole_here : (first : Block) (body : List Block) (entries : List EncodedInstruction) → entries ≡ flat_map (entries_at l) (sites_from 0 (first ∷ body)) →
      drop 0 entries ≡ flat_map (entries_at l) (sites_in 0 0 first.items) ++ flat_map (entries_at l) (sites_from 1 body)
  whole_here first body entries here = here ∙ flat_map-append (entries_at l) (sites_in 0 0 first.items) (sites_from 1 body)
