use Rattle.std.proofs.Common.{◌≡◌, ℕ, cond, Some, refl, sym, ◌∙◌, ap, List}
use Rattle.std.proofs.lemmas.Map.Text.{hash_map_updates_str}
use Rattle.rdx_lang.specs.References.{is_same}
use Rattle.rdx_lang.specs.declared.pattern.Ref.{Ref}
use Rattle.rdx_lang.specs.declared.pattern.Ref.TheVariants.{Nt, Cross}
use Rattle.rdx_gen.specs.Inside.Index.{found_in}
use Rattle.rdx_gen.proofs.IndexPlaces.{pairs-updated}
use Rattle.rdx_gen.proofs.nonterminals.Index.insert.Goals as goal

pub returns-in_ok-insert-in-Nt : goal.returns-in_ok-insert-in-Nt
returns-in_ok-insert-in-Nt c = λ x. by_kind x
    ∙ (λ i. cond (is_same (sym e i) x) (Some c.args.place) (found_in c.args.self.now.texts c.args.self.now.pairs x))
  where
    bs : List ℕ
    bs = c.text.result.now

    e : c.args.name.now ≡ Nt bs
    e = c.in-Nt.is ∙ ap Nt (sym c.text.ensures.value)

    by_kind : (x : Ref) → found_in c.insert.new.self c.args.self.now.pairs x
        ≡ cond (is_same (Nt bs) x) (Some c.args.place) (found_in c.args.self.now.texts c.args.self.now.pairs x)
    by_kind (Nt cs) = hash_map_updates_str bs c.args.self.now.texts c.insert.new.self _ c.in_ok-insert-in-Nt.ensures.updates cs
    by_kind (Cross cs ds) = refl

pub returns-in_ok-insert-in-Cross : goal.returns-in_ok-insert-in-Cross
returns-in_ok-insert-in-Cross c = λ x. by_kind x
    ∙ (λ i. cond (is_same (sym e i) x) (Some c.args.place) (found_in c.args.self.now.texts c.args.self.now.pairs x))
  where
    fs : List ℕ
    fs = c.text-in-Cross.result.now

    bs : List ℕ
    bs = c.text-in-Cross-2.result.now

    e : c.args.name.now ≡ Cross fs bs
    e = c.in-Cross.is ∙ (λ i. Cross (sym c.text-in-Cross.ensures.value i) (sym c.text-in-Cross-2.ensures.value i))

    by_kind : (x : Ref) → found_in c.args.self.now.texts c.insert-in-Cross.new.self x
        ≡ cond (is_same (Cross fs bs) x) (Some c.args.place) (found_in c.args.self.now.texts c.args.self.now.pairs x)
    by_kind (Nt cs) = refl
    by_kind (Cross cs ds) =
        pairs-updated (c.text-in-Cross.result, c.text-in-Cross-2.result) c.args.self.now.pairs
        c.insert-in-Cross.new.self _ c.in_ok-insert-in-Cross.ensures.updates cs ds
