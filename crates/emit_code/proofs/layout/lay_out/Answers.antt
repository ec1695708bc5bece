use Rattle.std.proofs.Common.{◌≡◌, ap, sym, subst, refl, ◌∙◌}
use Rattle.mir_func.specs.Function.{FramedFunction}
use Rattle.mir_func.specs.Sound.{AllItems}
use Rattle.mir_func.specs.SoundFrame.{IsFramed}
use Rattle.emit_code.specs.Laid.{IsCode}
use Rattle.emit_code.specs.Rule.{Layout, words_of, entries_of}
use Rattle.emit_code.specs.steps.Emitted.{IsFormed}
use Rattle.emit_code.proofs.Stand.{sound_code}
use Rattle.emit_code.proofs.Worded.{Sound, worded, code_fits, addresses_fit}
use Rattle.emit_code.proofs.layout.lay_out.Goals as goal

pub invariant_of-result : goal.invariant_of-result
invariant_of-result c =
    let of = c.in_ok-plan.ensures in
    let f : FramedFunction = c.args.framed in
    let l : Layout = record { framed = f; base = c.args.base; long = of.long } in
    let same : c.as_slice-blocks.result.now ≡ f.blocks = c.as_slice-blocks.ensures ∙ ap (λ (g : FramedFunction). g.blocks) c.framed.view_is in
    let sound : Sound l = record {
      framed = subst IsFramed c.framed.view_is c.framed.invariant;
      forms = subst (AllItems IsFormed) same c.in_ok-words.ensures.forms;
      few = c.requires.items;
      aligned = c.requires.aligned;
      closed = of.settled.closed;
    } in
    let words : c.in_ok-words.words ≡ words_of l = c.in_ok-words.ensures.value l of.plan (sym same) in
    let entries : c.in_ok-entries.entries ≡ entries_of l = c.in_ok-entries.ensures l of.plan (sym same) in
    subst IsCode (λ i. record { base = c.args.base; words = sym words i; entries = sym entries i; framed = f })
    (sound_code l (worded l sound) c.requires.items c.requires.aligned c.requires.low)

pub returns : goal.returns
returns c =
    let of = c.in_ok-plan.ensures in
    let f : FramedFunction = c.args.framed in
    let l : Layout = record { framed = f; base = c.args.base; long = of.long } in
    let same : c.as_slice-blocks.result.now ≡ f.blocks = c.as_slice-blocks.ensures ∙ ap (λ (g : FramedFunction). g.blocks) c.framed.view_is in
    let sound : Sound l = record {
      framed = subst IsFramed c.framed.view_is c.framed.invariant;
      forms = subst (AllItems IsFormed) same c.in_ok-words.ensures.forms;
      few = c.requires.items;
      aligned = c.requires.aligned;
      closed = of.settled.closed;
    } in
    record {
      laid = record {
        layout = l;
        of = refl;
        from = refl;
        settled = of.settled;
        worded = worded l sound;
        fit = code_fits l sound;
        small = addresses_fit l sound c.requires.low;
        entries = c.in_ok-entries.ensures l of.plan (sym same);
        words = c.in_ok-words.ensures.value l of.plan (sym same);
        framed = refl;
        base_kept = refl;
      };
    }
