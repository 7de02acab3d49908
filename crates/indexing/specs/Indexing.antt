-- The check of an index (document 01, "Answers"; `check_index_target` and `check_index_any` of the source's statements/mod.rs): a
-- target, and a key.
use Rattle.std.specs.Prelude.{◌||◌, cond, List, [], ℕ, eqb, take, Ok, None}
use Rattle.kinds.specs.Kinds.{null, is_array, is_set, is_map, is_tuple, is_union}
use Rattle.types.specs.Types.{kind_of, child_of}
use Rattle.matching.specs.Matching.{matches}
use Rattle.matching.specs.declared.Checked.{Checked}
use Rattle.matching.specs.declared.Checked.TheVariants.{Known, Unknown, Function}
use Rattle.operators.specs.Outcome.{no_error, one_error, outcome}
use Rattle.operators.specs.declared.Reason.TheVariants.{BadKey, NotIndexable}
use Rattle.operators.specs.declared.Outcome.{Outcome}
use Rattle.members.specs.Members.{size_of, member, Concluded, concluded}
use Rattle.members.specs.Trials.{fold_to, no_failure, Tried, tried, joined, settled}
use Rattle.indexing.specs.declared.Trials.{Trials}

-- ---- `check_index_target`

-- an array and a set answer their element, a map its value, whose key must match; "Null and tuple targets index to Unknown with no
-- error"; nothing else can be indexed
unfoldable pub index_target : List ℕ → Checked → ℕ → Outcome
index_target page key t =
    cond (is_array (kind_of page t) || is_set (kind_of page t)) (outcome (Known (child_of page t 0)) no_error)
    (cond (is_map (kind_of page t))
    (outcome (Known (child_of page t 1)) (cond (matches page key (Known (child_of page t 0))) no_error (one_error BadKey)))
    (cond (eqb (kind_of page t) null || is_tuple (kind_of page t)) (outcome Unknown no_error) (outcome Unknown (one_error NotIndexable))))

-- ---- `check_index_any`: "A union target is flattened likewise; a member still a union, or indexing to Unknown, fails"

-- the first n members of t
unfoldable pub members_tried : List ℕ → Checked → ℕ → ℕ → Tried
members_tried page key t n = fold_to n (λ i q. joined (member page t i) None (index_target page key (member page t i)) q) (tried [] no_failure)

-- the trials as src/ has them: how many results stand in a list, and the members that fail
abbrev pub tried_of : List ℕ → Trials → Tried
tried_of results trials = tried (take trials.merged results) trials.failing

unfoldable pub index_any : List ℕ → Checked → ℕ → Concluded
index_any page key t = settled page (members_tried page key t (size_of page t))

-- ---- on checked types

unfoldable pub check_index : List ℕ → Checked → Checked → Concluded
check_index page key Unknown = concluded (Ok (outcome Unknown no_error)) page
check_index page key (Function f) = concluded (Ok (outcome Unknown (one_error NotIndexable))) page
check_index page key (Known t) =
    cond (is_union (kind_of page t)) (index_any page key t) (concluded (Ok (index_target page key t)) page)
