use Rattle.std.proofs.Common.{rules, ◌≡◌, ◌∙◌, ◌≤◌, FitsSigned, List, map, sym, ap, subst, arith}
use Rattle.std.proofs.lemmas.Grind.{common_steps}
use Rattle.std.proofs.lemmas.Int.{to_z-of_z}
use Rattle.std.specs.Int.{w128}
use Rattle.rdx_sexp.specs.Sexp.{Sexp, integer, truth, text, symbol, keyword, leaf, sexps}
use Rattle.rdx_sexp.specs.Size.{sexps_depth}
use Rattle.rdx_sexp.specs.View.{sexp_of}
use Rattle.rdx_sexp.specs.declared.datum.Form.TheVariants.{Int}
use Rattle.rdx_relations.specs.Inside.Filling.{filled}
use Rattle.rdx_relations.specs.Inside.ShortcutViews.{shortcuts_in}
use Rattle.std.specs.Rc.{rc_str_bytes}
use Rattle.rdx_relations.proofs.CopiedDepths.{atom_depth, list_depth, depth_pushed}
use Rattle.rdx_relations.proofs.NestedShortcuts.{atom-made, list-made}
use Rattle.rdx_relations.proofs.shorthand.filling.+filling.Goals as goal
use Rattle.rdx_relations.proofs.shorthand.filling.+filling.Goals.{filled-in-Int, filled-in-Bool, filled-in-Str+in_ok-clone-in-Str, filled-in-Sym+in_ok-clone-in-Sym, filled-in-Key+in_ok-clone-in-Key, filled-in-List+in_ok-inside-in-List+in_ok-filled_items-in-List}

pub filled-returns-clause-made : goal.filled-returns-clause-made
filled-returns-clause-made t c =
    let spot = c.in_ok-spot.spot in
    let d : Sexp = spot.datum.now in
    let sp = c.datum.inside.span in
    let ss = shortcuts_in spot.layers.now in
    let e : Sexp = spot.base.now in
    elim c.match-datum.branch [
      | filled-in-Int w ↦
          let fit : FitsSigned w128 w.in-Int.n = search rules in
          let k : c.match-datum.form ≡ Int w.in-Int.n = simp to_z-of_z at w.form-is in
          ap (λ f. sexp_of f sp) k
          ∙ atom-made spot.side ss e d (integer w.in-Int.n) sp (sym c.datum.view_is ∙ ap (λ f. sexp_of f sp) w.in-Int.is) c.in_ok-spot.ensures.settled
          ∙ c.in_ok-spot.ensures.same
      | filled-in-Bool w ↦
          ap (λ f. sexp_of f sp) w.form-is
          ∙ atom-made spot.side ss e d (truth w.in-Bool.b) sp (sym c.datum.view_is ∙ ap (λ f. sexp_of f sp) w.in-Bool.is) c.in_ok-spot.ensures.settled
          ∙ c.in_ok-spot.ensures.same
      | filled-in-Str+in_ok-clone-in-Str w ↦
          ap (λ f. sexp_of f sp) w.form-is
          ∙ ap (λ x. leaf (text x) sp) w.in_ok-clone-in-Str.ensures.cases
          ∙ atom-made spot.side ss e d (text (rc_str_bytes w.in-Str.text)) sp (sym c.datum.view_is ∙ ap (λ f. sexp_of f sp) w.in-Str.is)
          c.in_ok-spot.ensures.settled
          ∙ c.in_ok-spot.ensures.same
      | filled-in-Sym+in_ok-clone-in-Sym w ↦
          ap (λ f. sexp_of f sp) w.form-is
          ∙ ap (λ x. leaf (symbol x) sp) w.in_ok-clone-in-Sym.ensures.cases
          ∙ atom-made spot.side ss e d (symbol (rc_str_bytes w.in-Sym.text)) sp (sym c.datum.view_is ∙ ap (λ f. sexp_of f sp) w.in-Sym.is)
          c.in_ok-spot.ensures.settled
          ∙ c.in_ok-spot.ensures.same
      | filled-in-Key+in_ok-clone-in-Key w ↦
          ap (λ f. sexp_of f sp) w.form-is
          ∙ ap (λ x. leaf (keyword x) sp) w.in_ok-clone-in-Key.ensures.cases
          ∙ atom-made spot.side ss e d (keyword (rc_str_bytes w.in-Key.text)) sp (sym c.datum.view_is ∙ ap (λ f. sexp_of f sp) w.in-Key.is)
          c.in_ok-spot.ensures.settled
          ∙ c.in_ok-spot.ensures.same
      | filled-in-List+in_ok-inside-in-List+in_ok-filled_items-in-List w ↦
          ap (λ f. sexp_of f sp) w.form-is
          ∙ list-made spot.side ss e d w.in-List.items.items w.in_ok-filled_items-in-List.field-0.items sp
          (sym c.datum.view_is ∙ ap (λ f. sexp_of f sp) w.in-List.is)
          (w.in_ok-filled_items-in-List.ensures.made ∙ ap (map (filled spot.side ss e)) w.deref.ensures.value)
          ∙ c.in_ok-spot.ensures.same
    ]

pub filled-returns-clause-depth : goal.filled-returns-clause-depth
filled-returns-clause-depth t c =
    let sp = c.datum.inside.span in
    let n = c.args.room.left in
    elim c.match-datum.branch [
      | filled-in-Int w ↦
          let fit : FitsSigned w128 w.in-Int.n = search rules in
          let k : c.match-datum.form ≡ Int w.in-Int.n = simp to_z-of_z at w.form-is in
          atom_depth (sexp_of c.match-datum.form sp) (integer w.in-Int.n) sp n (ap (λ f. sexp_of f sp) k)
      | filled-in-Bool w ↦ atom_depth (sexp_of c.match-datum.form sp) (truth w.in-Bool.b) sp n (ap (λ f. sexp_of f sp) w.form-is)
      | filled-in-Str+in_ok-clone-in-Str w ↦
          atom_depth (sexp_of c.match-datum.form sp) (text (rc_str_bytes w.in_ok-clone-in-Str.field-0)) sp n (ap (λ f. sexp_of f sp) w.form-is)
      | filled-in-Sym+in_ok-clone-in-Sym w ↦
          atom_depth (sexp_of c.match-datum.form sp) (symbol (rc_str_bytes w.in_ok-clone-in-Sym.field-0)) sp n (ap (λ f. sexp_of f sp) w.form-is)
      | filled-in-Key+in_ok-clone-in-Key w ↦
          atom_depth (sexp_of c.match-datum.form sp) (keyword (rc_str_bytes w.in_ok-clone-in-Key.field-0)) sp n (ap (λ f. sexp_of f sp) w.form-is)
      | filled-in-List+in_ok-inside-in-List+in_ok-filled_items-in-List w ↦
          list_depth (sexp_of c.match-datum.form sp) w.in_ok-filled_items-in-List.field-0.items sp w.in_ok-inside-in-List.field-0.left n
          (ap (λ f. sexp_of f sp) w.form-is) w.in_ok-filled_items-in-List.ensures.depth w.in_ok-inside-in-List.ensures
    ]

pub filled_items-loop-datum-preserved : goal.filled_items-loop-datum-preserved
filled_items-loop-datum-preserved t c =
    let n = c.args.room.left in
    let m = c.loop-datum.invariant.0 in (
      grind (arith, common_steps, m),
      subst (λ (ds : List Sexp). sexps_depth (sexps ds) ≤ n) (sym {A = List Sexp} c.in_ok-push.ensures.items)
          (depth_pushed c.loop-datum.copies.items c.in_ok-filled.field-0 n c.loop-datum.invariant.1 c.in_ok-filled.ensures.depth),
    )
