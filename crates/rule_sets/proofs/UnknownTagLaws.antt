-- The team that is refused is the first one with a tag that no limit names.
use Rattle.std.proofs.Common.{◌≡◌, ℕ, zero, suc, ◌+◌, ◌<◌, ◌⊎◌, inl, inr, Bool, true, false, List, [], ◌∷◌, slice_get, refl, sym, ap, ◌∙◌, subst, Option, Some, None, arith}
use Rattle.std.specs.Prelude.{bytes_eq, if◌then◌else◌}
use Rattle.std.specs.List.{list_all, All}
use Rattle.std.proofs.lemmas.Bool.{cases_order, and_parts}
use Rattle.std.proofs.lemmas.List.Elements.{All-nil, All-cons, All-head, All-tail}
use Rattle.std.proofs.lemmas.List.Folds.{Any-from_list_any, list_any-from_Any}
use Rattle.std.proofs.lemmas.Slice.Eq.{bytes_eq-Decides}
use Rattle.team_files.specs.declared.fault.FileFault.{FileFault}
use Rattle.team_files.specs.declared.head_limit.HeadLimit.{HeadLimit}
use Rattle.team_files.specs.declared.team.Team.{Team}
use Rattle.team_files.specs.Heads.{has_limit}
use Rattle.rule_sets.specs.Files.{has_limits, unknown_tag_from}
use Rattle.rule_sets.specs.UnknownTags.{IsLimited, IsFirstUnknown, tags_of, TellsFirstUnknownTag}

-- ---- a tag is found exactly where a limit has it

module _ (limits : List HeadLimit) where
  pub limit_found : (tag : List ℕ) → has_limit limits tag ≡ true → IsLimited limits tag
  limit_found tag e =
      let any = Any-from_list_any (λ (l : HeadLimit). bytes_eq l.tag tag) limits e in
      (any.0, any.1, any.2, any.3, (bytes_eq-Decides any.1.tag tag).0 any.4)

  limit_back : (tag : List ℕ) → IsLimited limits tag → has_limit limits tag ≡ true
  limit_back tag any = list_any-from_Any (λ (l : HeadLimit). bytes_eq l.tag tag) limits (any.0, any.1, any.2, any.3, (bytes_eq-Decides any.1.tag tag).1 any.4)

  pub all_found : (tags : List (List ℕ)) → list_all (has_limit limits) tags ≡ true → All (IsLimited limits) tags
  all_found [] e = All-nil (IsLimited limits)
  all_found (tag ∷ tags) e =
      let h = and_parts (has_limit limits tag) (list_all (has_limit limits) tags) e in
      All-cons (IsLimited limits) tag tags (limit_found tag h.0) (all_found tags h.1)

  all_back : (tags : List (List ℕ)) → All (IsLimited limits) tags → list_all (has_limit limits) tags ≡ true
  all_back [] all = refl
  all_back (tag ∷ tags) all = rw (limit_back tag (All-head (IsLimited limits) tag tags all)) (all_back tags (All-tail (IsLimited limits) tag tags all))

  -- ---- the first team with an unknown tag

  first_told : (i : ℕ) (teams : List Team) (fault : FileFault) → unknown_tag_from limits i teams ≡ Some fault
      → (place : ℕ) × (fault ≡ FileFault.UnknownTag (i + place)) × IsFirstUnknown limits (tags_of teams) place
  first_told i [] fault e = cc
  first_told i (t ∷ ts) fault e = go (has_limits limits t) refl (λ h. first_told (i + 1) ts fault h) e
    where
      go : (b : Bool) → has_limits limits t ≡ b
          → (unknown_tag_from limits (i + 1) ts ≡ Some fault → (place : ℕ) × (fault ≡ FileFault.UnknownTag ((i + 1) + place)) × IsFirstUnknown limits (tags_of ts) place)
          → (if b then unknown_tag_from limits (i + 1) ts else Some (FileFault.UnknownTag i)) ≡ Some fault
          → (place : ℕ) × (fault ≡ FileFault.UnknownTag (i + place)) × IsFirstUnknown limits (tags_of (t ∷ ts)) place
      go false is rest h =
          let here : FileFault.UnknownTag i ≡ fault = cc in
          let none : i + 0 ≡ i = omega arith in (
            zero,
            sym here ∙ ap (λ n. FileFault.UnknownTag n) (sym none),
            record {
              unknown = (t.tags, refl, λ all. let clash = sym (all_back t.tags all) ∙ is in cc);
              first = λ k tags lt at. absurd (omega (arith, lt));
            },
          )
      go true is rest h =
          let r = rest h in
          let place : i + suc r.0 ≡ (i + 1) + r.0 = omega arith in
          (suc r.0, r.1 ∙ ap (λ n. FileFault.UnknownTag n) (sym place), record { unknown = r.2.unknown; first = later r.0 r.2.first })
        where
          later : (n : ℕ) → ((k : ℕ) (tags : List (List ℕ)) → k < n → slice_get (tags_of ts) k ≡ Some tags → All (IsLimited limits) tags)
              → (k : ℕ) (tags : List (List ℕ)) → k < suc n → slice_get (tags_of (t ∷ ts)) k ≡ Some tags → All (IsLimited limits) tags
          later n first zero tags lt at = let same : t.tags ≡ tags = cc in subst (All (IsLimited limits)) same (all_found t.tags is)
          later n first (suc k) tags lt at = first k tags (omega arith) at

  -- where no team is told, each has limits for its tags
  pub all_limited : (i : ℕ) (teams : List Team) → unknown_tag_from limits i teams ≡ None → All (λ t. All (IsLimited limits) t.tags) teams
  all_limited i [] e = All-nil (λ (t : Team). All (IsLimited limits) t.tags)
  all_limited i (t ∷ ts) e = go (has_limits limits t) refl (λ h. all_limited (i + 1) ts h) e
    where
      go : (b : Bool) → has_limits limits t ≡ b → (unknown_tag_from limits (i + 1) ts ≡ None → All (λ u. All (IsLimited limits) u.tags) ts) → (if b then unknown_tag_from limits (i + 1) ts else Some (FileFault.UnknownTag i)) ≡ None
          → All (λ u. All (IsLimited limits) u.tags) (t ∷ ts)
      go false is rest h = cc
      go true is rest h = All-cons (λ (u : Team). All (IsLimited limits) u.tags) t ts (all_found t.tags is) (rest h)

  limited_at : (teams : List Team) (k : ℕ) (tags : List (List ℕ)) → All (λ t. All (IsLimited limits) t.tags) teams → slice_get (tags_of teams) k ≡ Some tags → All (IsLimited limits) tags
  limited_at [] k tags all at = cc
  limited_at (t ∷ ts) zero tags all at = let same : t.tags ≡ tags = cc in subst (All (IsLimited limits)) same (All-head (λ (u : Team). All (IsLimited limits) u.tags) t ts all)
  limited_at (t ∷ ts) (suc k) tags all at = limited_at ts k tags (All-tail (λ (u : Team). All (IsLimited limits) u.tags) t ts all) at

  one_first : (lists : List (List (List ℕ))) (i j : ℕ) → IsFirstUnknown limits lists i → IsFirstUnknown limits lists j → i ≡ j
  one_first lists i j a b = go (cases_order i j)
    where
      go : (i ≡ j) ⊎ ((i < j) ⊎ (j < i)) → i ≡ j
      go (inl same) = same
      go (inr (inl less)) = absurd (a.unknown.2 (b.first i a.unknown.0 less a.unknown.1))
      go (inr (inr more)) = absurd (b.unknown.2 (a.first j b.unknown.0 more b.unknown.1))

-- looking up the tags refuses exactly the first team with an unknown one
pub tells_first_unknown_tag : TellsFirstUnknownTag
tells_first_unknown_tag limits teams fault = ((λ e. told (first_told limits 0 teams fault e)), λ h. back h (unknown_tag_from limits 0 teams) refl)
  where
    told : ((place : ℕ) × (fault ≡ FileFault.UnknownTag (0 + place)) × IsFirstUnknown limits (tags_of teams) place)
        → (place : ℕ) × (fault ≡ FileFault.UnknownTag place) × IsFirstUnknown limits (tags_of teams) place
    told t = let none : 0 + t.0 ≡ t.0 = omega arith in (t.0, t.1 ∙ ap (λ n. FileFault.UnknownTag n) none, t.2)

    back : ((place : ℕ) × (fault ≡ FileFault.UnknownTag place) × IsFirstUnknown limits (tags_of teams) place)
        → (o : Option FileFault) → unknown_tag_from limits 0 teams ≡ o → unknown_tag_from limits 0 teams ≡ Some fault
    back h None e = absurd (h.2.unknown.2 (limited_at limits teams h.0 h.2.unknown.0 (all_limited limits 0 teams e) h.2.unknown.1))
    back h (Some other) e =
        let t = told_other other e in
        let place : t.0 ≡ h.0 = one_first limits (tags_of teams) t.0 h.0 t.2 h.2 in
        e ∙ ap (λ f. Some f) (t.1 ∙ ap (λ n. FileFault.UnknownTag n) place ∙ sym h.1)
      where
        told_other : (f : FileFault) → unknown_tag_from limits 0 teams ≡ Some f → (place : ℕ) × (f ≡ FileFault.UnknownTag place) × IsFirstUnknown limits (tags_of teams) place
        told_other f is = let t = first_told limits 0 teams f is in let none : 0 + t.0 ≡ t.0 = omega arith in (t.0, t.1 ∙ ap (λ n. FileFault.UnknownTag n) none, t.2)
