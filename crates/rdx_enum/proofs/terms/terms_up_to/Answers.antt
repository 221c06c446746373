use Rattle.std.proofs.Common.{◌≡◌, ◌≤◌, List, map, sym, ap, ◌∙◌, subst}
use Rattle.std.proofs.lemmas.Result.{IfOk-weaker}
use Rattle.std.specs.Prelude.{◌↔◌}
use Rattle.rdx_term.specs.Tree.{Tree, tree_nodes}
use Rattle.rdx_term.specs.View.{tree_of}
use Rattle.rdx_lang.specs.Checked.{language_in}
use Rattle.rdx_lang.specs.Members.{In}
use Rattle.rdx_lang.specs.Patterns.{nt, Language}
use Rattle.rdx_lang.specs.declared.pattern.Ref.TheVariants.{Nt}
use Rattle.rdx_enum.specs.Inside.Rows.{row_of}
use Rattle.rdx_enum.specs.Inside.Tables.{AreTables, IsThere}
use Rattle.rdx_enum.specs.Pool.{pool as pool_of}
use Rattle.rdx_enum.specs.Pool.{IsOver}
use Rattle.rdx_enum.specs.UpTo.{MatchesSome}
use Rattle.rdx_enum.proofs.Final.{all_listed}
use Rattle.rdx_enum.proofs.terms.terms_up_to.Goals as goal

pub known_terms-requires-clause-there : goal.known_terms-requires-clause-there
known_terms-requires-clause-there g c =
    let n : c.in_ok-share.field-0 ≡ c.args.nt.now = c.in_ok-share.ensures in
    subst (λ ts. IsThere ts (Nt c.in_ok-share.field-0) c.args.k) (sym c.deref-2.ensures.value)
    (subst (λ y. IsThere c.in_ok-tables.tables.items (Nt y) c.args.k) (sym n) (c.in_ok-tables.ensures.there (Nt c.args.nt.now) c.requires.defined))

pub returns : goal.returns
returns g c =
    let L : Language = language_in c.args.language.now in
    let P : List Tree = row_of c.in_ok-pool.pool in
    let e : P ≡ pool_of L = c.in_ok-pool.ensures.same ∙ ap pool_of c.language-2.ensures.value in
    let d : map tree_of c.deref.result.now ≡ P = ap (map tree_of) c.deref.ensures.value in
    let tables : AreTables L P c.deref-2.result.now =
    subst (AreTables L P) (sym c.deref-2.ensures.value) (subst (λ (Q : List Tree). AreTables L Q c.in_ok-tables.tables.items) d c.in_ok-tables.ensures.tables) in
    let n : c.in_ok-share.field-0 ≡ c.args.nt.now = c.in_ok-share.ensures in
    let all : (t : Tree) → IsOver P t → tree_nodes t ≤ c.args.k → MatchesSome L (nt (Nt c.args.nt.now)) t → In t (row_of c.in_ok-known.known) =
    λ t o l m. c.in_ok-known.ensures.all L P tables t o l (subst (λ y. MatchesSome L (nt (Nt y)) t) (sym n) m) in
    let only : (t : Tree) → In t (row_of c.in_ok-known.known) → (tree_nodes t ≤ c.args.k) × MatchesSome L (nt (Nt c.args.nt.now)) t =
    λ t h. let o = c.in_ok-known.ensures.only L P tables t h in (o.0, subst (λ y. MatchesSome L (nt (Nt y)) t) n o.1) in
    let exact : (t : Tree) → (In t (row_of c.in_ok-found.found) ↔ (In t (row_of c.in_ok-known.known) × IsOver P t)) =
    subst (λ terms. (t : Tree) → (In t (row_of c.in_ok-found.found) ↔ (In t (map tree_of terms) × IsOver P t))) c.deref-4.ensures.value
    (subst (λ atoms. (t : Tree) → (In t (row_of c.in_ok-found.found) ↔ (In t (map tree_of c.deref-4.result.now) × IsOver (map tree_of atoms) t))) c.deref-3.ensures.value c.in_ok-found.ensures) in
    IfOk-weaker c.listing.result _ _ (λ v l. all_listed L (Nt c.args.nt.now) c.args.k P (row_of c.in_ok-known.known) (row_of c.in_ok-found.found) (map tree_of v.items) c.requires.small e all only exact l) c.listing.ensures
