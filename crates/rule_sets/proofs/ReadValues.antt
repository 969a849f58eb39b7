-- Values that passed a test when they were read.
use Rattle.std.proofs.Common.{◌≡◌, ℕ, Bool, true, false, List, Option, Some, None, refl, subst}
use Rattle.std.specs.Prelude.{option_and_then}
use Rattle.serde_json.specs.Data.{Data}
use Rattle.serde_json.specs.Find.{as_str}
use Rattle.team_files.specs.Characters.{is_tag}
use Rattle.team_files.specs.Members.{where_true, tag_of}

-- a value that was kept passed the test
pub passed_test : {A : Type 0} (test : A → Bool) (value : Option A) (a : A) → option_and_then (λ x. where_true (test x) x) value ≡ Some a → test a ≡ true
passed_test test None a e = cc
passed_test test (Some x) a e = go (test x) refl e
  where
    go : (b : Bool) → test x ≡ b → where_true b x ≡ Some a → test a ≡ true
    go true is f = let same : x ≡ a = cc in subst (λ y. test y ≡ true) same is
    go false is f = cc

-- a tag that was read is a tag
pub tag_is : (d : Data) (tag : List ℕ) → tag_of d ≡ Some tag → is_tag tag ≡ true
tag_is d tag e = passed_test is_tag (as_str d) tag e
