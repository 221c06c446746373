use Rattle.std.proofs.Common.{◌≡◌, ◌∙◌, [], length, refl, sym, ap, subst}
use Rattle.std.specs.Prelude.{nat_eq}
use Rattle.rdx_lang.specs.Bindings.{Binding}
use Rattle.rdx_lang.specs.Checked.{language_in}
use Rattle.rdx_lang.specs.PatternView.{pattern_of}
use Rattle.rdx_lang.specs.Rules.{Match}
use Rattle.rdx_lang.specs.Shown.{binding_of}
use Rattle.rdx_term.specs.View.{tree_of}
use Rattle.rdx_opened.specs.Opening.{Stands}
use Rattle.rdx_opened.specs.Seeking.{marks_of}
use Rattle.rdx_opened.proofs.MarkLists.{no_marks, none_told}
use Rattle.rdx_opened.proofs.Sought.{known-match}
use Rattle.rdx_opened.proofs.seeking.known_match.Goals as goal

pub returns-then-is_empty : goal.returns-then-is_empty
returns-then-is_empty g c =
    let L = language_in c.args.language.now in
    let o = pattern_of c.in_ok-opened.opened.pat in
    let marks = c.in_ok-opened.opened.marks in
    let ms = marks_of marks.items in
    let t = tree_of c.args.t.now in
    let b = binding_of c.args.b.now in
    let none : ms ≡ [] = no_marks marks.items (none_told (length marks.items) c.is_empty.result
    (c.is_empty.ensures ∙ ap (λ n. nat_eq n 0) marks.ok.0) c.if-is_empty.true) in
    let k : Match L o t b × Stands ms b b = known-match L c.in_ok-opened.ensures none c.requires in
    let same : binding_of c.in_ok-binding.binding ≡ b = c.in_ok-binding.ensures in
    record {
      opened = c.in_ok-opened.ensures;
      holds = subst (λ (d : Binding). Match L o t d) (sym same) k.0;
      standing = record { whole = b; stands = subst (λ (d : Binding). Stands ms d b) (sym same) k.1; holds = refl };
    }
