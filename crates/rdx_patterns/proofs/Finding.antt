-- Names that are found by their texts, when one more is put in.
use Rattle.std.proofs.Common.{◌≡◌, ◌+◌, ◌<◌, ℕ, length, take, get_or, Bool, true, false, cond, List, Option, Some, refl, sym, ◌∙◌, ap, BTreeMap}
use Rattle.std.proofs.lemmas.List.Folds.{list_any_more}
use Rattle.std.proofs.lemmas.Map.Text.{btree_map_updates_text}
use Rattle.std.specs.BTreeMap.{Updates, get_by_text}
use Rattle.std.specs.Bool.{then_some}
use Rattle.std.specs.Cmp.Lexicographic.{bytes_decides}
use Rattle.std.specs.Prelude.{◌||◌, bytes_eq}
use Rattle.std.specs.String.{string_bytes, string_cmp}
use Rattle.std.specs.declared.string.String.{String}
use Rattle.rdx_patterns.specs.Kinds.{is_among}
use Rattle.rdx_patterns.specs.Model.Finding.{FindsAll}

-- what is found where one more may be
found-more : (a b : Bool) (o : Option (List ℕ)) (v x : List ℕ) → (b ≡ true → v ≡ x) → o ≡ then_some a x → cond b (Some v) o ≡ then_some (a || b) x
found-more true true o v x f g = ap Some (f refl)
found-more false true o v x f g = ap Some (f refl)
found-more true false o v x f g = g
found-more false false o v x f g = g

-- with the next name put in, it is found beside those before it
pub finds-next : {Y : Type 0} (ns : List (List ℕ)) (i : ℕ) (n : List ℕ) (k : String Y) (v : List ℕ) (old new : BTreeMap (String Y) (List ℕ))
    → i < length ns → n ≡ get_or ns i n → string_bytes k ≡ n → v ≡ n → Updates string_cmp old new k (Some v)
    → FindsAll (take i ns) old → FindsAll (take (i + 1) ns) new
finds-next ns i n k v old new h e f g u all x =
    let more : is_among (take (i + 1) ns) x ≡ (is_among (take i ns) x || bytes_eq (string_bytes k) x) =
    list_any_more (λ y. bytes_eq y x) ns i n h ∙ ap (λ y. is_among (take i ns) x || bytes_eq y x) (sym (f ∙ e)) in
    btree_map_updates_text (string_bytes k) old new (Some v) u x
    ∙ found-more (is_among (take i ns) x) (bytes_eq (string_bytes k) x) (get_by_text old x) v x
    (λ t. g ∙ sym f ∙ (bytes_decides (string_bytes k) x).0 t) (all x)
    ∙ ap (λ b. then_some b x) (sym more)
