-- Names, digests and numbers as keys of maps. Names and digests are their texts.
use Rattle.std.specs.Prelude.{ℕ}
use Rattle.std.specs.declared.cmp.Ordering.{Ordering}
use Rattle.std.specs.Ordering.{nat_cmp, ordering_then}
use Rattle.spec_lib.specs.Texts.{Text, text_cmp, coded_text}
use Rattle.std.specs.Coded.{Coded, coded×}

-- a repository and a digest
abbrev pub Link : Type 0
Link = Text × Text

-- links are ordered by repository, then by digest
abbrev pub link_cmp : Link → Link → Ordering
link_cmp a b = ordering_then (text_cmp a.0 b.0) (text_cmp a.1 b.1)

-- a tenant and the number of a session
abbrev pub SessionNumber : Type 0
SessionNumber = ℕ × ℕ

-- numbers are ordered by tenant, then by session
abbrev pub session_number_cmp : SessionNumber → SessionNumber → Ordering
session_number_cmp a b = ordering_then (nat_cmp a.0 b.0) (nat_cmp a.1 b.1)

-- the code of a link, which a model with links as keys needs
abbrev pub coded_link : Coded Link
coded_link = coded× coded_text coded_text
