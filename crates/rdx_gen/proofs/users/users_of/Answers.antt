use Rattle.std.proofs.Common.{◌≡◌, ◌<◌, ◌∙◌, ◌++◌, ap, sym, subst, map, List, ℕ, length, arith, Bor}
use Rattle.std.proofs.lemmas.Grind.{common_steps}
use Rattle.std.proofs.lemmas.List.{length-map}
use Rattle.rdx_lang.specs.Checked.{language_in}
use Rattle.rdx_lang.specs.PatternView.{definition_of, patterns_of}
use Rattle.rdx_lang.specs.Members.{In}
use Rattle.rdx_lang.specs.Patterns.{Language}
use Rattle.rdx_lang.specs.declared.pattern.Ref.{Ref}
use Rattle.rdx_gen.specs.Inside.Places.{list_at, lists_of, place_of}
use Rattle.rdx_gen.specs.NameRules.{all_mentioned}
use Rattle.rdx_gen.proofs.UserLaws.{users-more, mentions-inside}
use Rattle.rdx_gen.proofs.users.users_of.Goals as goal

pub loop-user-preserved : goal.loop-user-preserved
loop-user-preserved c =
    let L : Language = language_in c.args.nonterminals.now.language.now in
    let ds = c.language.result.now.nts.items in
    let e : map definition_of ds ≡ L.nonterminals = ap (λ (l : Language). l.nonterminals) c.language.ensures.value in
    let names : List Ref = map (λ (r : Bor Ref). r.now) c.deref-in-loop-user.result.now in
    let b : names ≡ all_mentioned (patterns_of c.index.result.now.1.items) =
    ap (map (λ (r : Bor Ref). r.now)) c.deref-in-loop-user.ensures.value ∙ c.in_ok-add_all_mentioned.ensures
    ∙ (λ i. map (λ (r : Bor Ref). r.now) (c.new-names.ensures.items i) ++ all_mentioned (patterns_of (c.deref.ensures.value i))) in
    let here : (x : Ref) → In x names → place_of L x < length ds → In c.loop-user.user (list_at (lists_of c.add_user.new.users.items) (place_of L x)) =
    λ x i l. c.in_ok-add_user.ensures.here x i (subst (λ (n : ℕ). place_of L x < n) (sym c.loop-user.invariant.size) l) in
    record {
      size = c.in_ok-add_user.ensures.size ∙ c.loop-user.invariant.size;
      all = users-more L definition_of ds c.index.result.now c.loop-user.user (length ds) names (lists_of c.loop-user.users.items) (lists_of c.add_user.new.users.items) e
          (grind (arith, common_steps)) c.index.ensures b c.loop-user.invariant.all c.in_ok-add_user.ensures.kept here;
    }

pub returns : goal.returns
returns c =
    let L : Language = language_in c.args.nonterminals.now.language.now in
    let ds = c.language.result.now.nts.items in
    let e : map definition_of ds ≡ L.nonterminals = ap (λ (l : Language). l.nonterminals) c.language.ensures.value in
    let n : length L.nonterminals ≡ length ds = sym (ap length e) ∙ length-map ds definition_of in
    record {
      size = length-map c.loop-user.users.items (λ v. v.items) ∙ c.loop-user.invariant.size ∙ sym n;
      all = λ j i m l. c.loop-user.invariant.all j i (let k = mentions-inside L j i m in grind (arith, common_steps)) m (subst (λ (k : ℕ). i < k) n l);
    }
