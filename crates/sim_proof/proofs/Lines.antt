-- The lines of a layout are those of its entries.
use Rattle.std.proofs.Common.{◌≡◌, ℕ, suc, ◌+◌, List, [], ◌∷◌, ◌++◌, map, drop, slice_get, Some, None, refl, sym, ap, ◌∙◌, subst, arith}
use Rattle.std.specs.List.{flat_map}
use Rattle.rv64_instr.specs.Instruction.{Instruction}
use Rattle.rv64_instr.specs.declared.symbol.Symbol.{Symbol}
use Rattle.rv64_instr.specs.LocationEffects.{part_named}
use Rattle.rv64_instr.specs.Row.{Row, row_of}
use Rattle.rv64_word.specs.Linked.{linked_word}
use Rattle.mir_func.specs.declared.item.ItemKind.{ItemKind}
use Rattle.mir_func.specs.declared.item.ItemKind.TheVariants.{Code, Mark, Phi}
use Rattle.mir_func.specs.declared.position.Origin.{Origin}
use Rattle.mir_func.specs.declared.position.Pos.{Pos}
use Rattle.mir_func.specs.Function.{FramedFunction}
use Rattle.mir_func.specs.Graph.{Fetch, Here, fetch_in}
use Rattle.mir_func.specs.Successors.{pos_in}
use Rattle.sem_machine.specs.Image.{CodeLine}
use Rattle.sem_machine.specs.MachineStep.{call_of, left_by}
use Rattle.emit_code.specs.declared.code.EncodedInstruction.{EncodedInstruction}
use Rattle.emit_code.specs.LongBranch.{skip_of}
use Rattle.emit_code.specs.Listed.{Line, listed, form_lines, kind_lines, lines_at, lines_of}
use Rattle.emit_code.specs.Rule.{Layout, Form, Nothing, OneWord, CallSite, LongBranch, row_form, form_of, form_entries, address_in, Site, sites_of, entries_at}
use Rattle.emit_code.specs.Rule.{entries_of}
use Rattle.emit_code.proofs.Settled as settled
use Rattle.machine_steps_proof.specs.Images.{code_line}
use Rattle.sim_machine.specs.Shown.{kind_call, fetch_call, kind_left, fetch_left, kind_row, fetch_row, AreLinesOf}
use Rattle.machine_steps_proof.proofs.Linked.{unlinked, word_listed}
use Rattle.machine_steps_proof.proofs.Listed.{left_listed}
use Rattle.sim_proof.proofs.Listed.{call_listed, long_none, long_whole, long_stays, skip_none, skip_whole, skip_stays, jump_none}

abbrev fetched : FramedFunction → Pos → Fetch
fetched f p = fetch_in (drop p.block f.blocks) p.item

map_append : (xs ys : List Line) → map code_line (xs ++ ys) ≡ map code_line xs ++ map code_line ys
map_append [] ys = refl
map_append (x ∷ xs) ys = ap (λ (zs : List CodeLine). code_line x ∷ zs) (map_append xs ys)

lines_append : (f : FramedFunction) (es : List EncodedInstruction) (ls : List CodeLine) (es' : List EncodedInstruction) (ls' : List CodeLine) →
    AreLinesOf f es ls → AreLinesOf f es'
    ls' →
    AreLinesOf f (es ++ es') (ls ++ ls')
lines_append f [] [] es' ls' h h' = h'
lines_append f [] (l ∷ ls) es' ls' h h' = absurd h
lines_append f (e ∷ es) [] es' ls' h h' = absurd h
lines_append f (e ∷ es) (l ∷ ls) es' ls' h h' = (h.0, lines_append f es ls es' ls' h.1 h')

module _ (l : Layout) where
  -- the item of a site stands at its point
  site_stands : (k : ℕ) (s : Site) → slice_get (sites_of l.framed) k ≡ Some s → fetched l.framed s.point ≡ Here s.item
  site_stands k s e =
      let p = settled.placed 0 l.framed.blocks k s e in
      let b : p.counted ≡ p.block = (let q = p.is in omega (arith, q)) in
      ap (fetched l.framed) p.point ∙ ap (λ (n : ℕ). fetched l.framed (pos_in n p.index)) b
      ∙ settled.fetched l.framed.blocks p.block p.index s.item p.item

  -- an instruction's line is linked as the item at its point
  links_listed : (p : Pos) (c : Instruction) → fetch_row (fetched l.framed p) ≡ row_of c → (symbols : Symbol → ℕ) (w : ℕ) →
      linked_word symbols (row_of (listed l.framed c)) w ≡ linked_word symbols (fetch_row (fetched l.framed p)) w
  links_listed p c row symbols w = word_listed symbols w l.framed c ∙ sym (ap (λ (r : Row). linked_word symbols r w) row)

  -- the lines of code of a form beside its entries, where what the item does by a callee is known
  form_beside : (a : ℕ) (o : Origin) (p : Pos) (c : Instruction) (x : Form) → fetch_call (fetched l.framed p) ≡ call_of (row_of c) →
      fetch_left (fetched l.framed p) ≡ left_by (row_of c) → fetch_row (fetched l.framed p) ≡ row_of c → row_form (l.long p) (row_of c) ≡ x →
      AreLinesOf l.framed (form_entries a o p x) (map code_line (form_lines l.framed a o c x))
  form_beside a o p c Nothing call left row e = tt
  form_beside a o p c OneWord call left row e = (
    record {
      address = refl;
      origin = refl;
      call = call_listed l.framed c ∙ sym call;
      left = left_listed l.framed c ∙ sym left;
      links = links_listed p c row;
    },
    tt,
  )
  form_beside a o p c CallSite call left row e = (
    record {
      address = refl;
      origin = refl;
      call = call_listed l.framed c ∙ sym call;
      left = left_listed l.framed c ∙ sym left;
      links = links_listed p c row;
    },
    tt,
  )
  form_beside a o p c (LongBranch b) call left row e =
      let none = call ∙ long_none (l.long p) (row_of c) b e in
      let stays = left ∙ long_stays (l.long p) (row_of c) b e in
      let whole : part_named (fetch_row (fetched l.framed p)) ≡ None = ap part_named row ∙ long_whole (l.long p) (row_of c) b e in (
        record {
          address = refl;
          origin = refl;
          call = skip_none (l.long p) c b e ∙ sym none;
          left = skip_stays (l.long p) c b e ∙ sym stays;
          links = λ symbols w. unlinked symbols w (row_of (skip_of c)) (skip_whole (l.long p) c b e)
              ∙ sym (unlinked symbols w (fetch_row (fetched l.framed p)) whole);
        },
        (
          record {
            address = refl;
            origin = refl;
            call = jump_none b ∙ sym none;
            left = sym stays;
            links = λ symbols w. sym (unlinked symbols w (fetch_row (fetched l.framed p)) whole);
          },
          tt,
        ),
      )

  kind_beside : (s : Site) (k : ItemKind) → fetch_call (fetched l.framed s.point) ≡ kind_call k → fetch_left (fetched l.framed s.point) ≡ kind_left k →
      fetch_row (fetched l.framed s.point) ≡ kind_row k →
      AreLinesOf l.framed (form_entries (address_in l s.point) s.item.origin s.point (form_of (l.long s.point) k)) (map code_line (kind_lines l s k))
  kind_beside s (Code c n) call left row =
      form_beside (address_in l s.point) s.item.origin s.point c (form_of (l.long s.point) (Code c n)) call left row refl
  kind_beside s (Mark v m) call left row = tt
  kind_beside s (Phi p n) call left row = tt

  site_beside : (s : Site) → fetched l.framed s.point ≡ Here s.item → AreLinesOf l.framed (entries_at l s) (map code_line (lines_at l s))
  site_beside s here = kind_beside s s.item.kind (ap fetch_call here) (ap fetch_left here) (ap fetch_row here)

  sites_beside : (ss : List Site) → ((k : ℕ) (s : Site) → slice_get ss k ≡ Some s → fetched l.framed s.point ≡ Here s.item) →
      AreLinesOf l.framed (flat_map (entries_at l) ss) (map code_line (flat_map (lines_at l) ss))
  sites_beside [] stand = tt
  sites_beside (s ∷ ss) stand =
      subst (λ (ls : List CodeLine). AreLinesOf l.framed (flat_map (entries_at l) (s ∷ ss)) ls) (sym (map_append (lines_at l s) (flat_map (lines_at l) ss)))
      (lines_append l.framed (entries_at l s) (map code_line (lines_at l s)) (flat_map (entries_at l) ss) (map code_line (flat_map (lines_at l) ss))
      (site_beside s (stand 0 s refl)) (sites_beside ss (λ k t e. stand (suc k) t e)))

  pub lines_beside : AreLinesOf l.framed (entries_of l) (map code_line (lines_of l))
  lines_beside = sites_beside (sites_of l.framed) site_stands
