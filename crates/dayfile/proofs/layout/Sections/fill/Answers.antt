use Rattle.std.proofs.Common.{◌≡◌, ◌∙◌, rules}
use Rattle.dayfile.specs.Tables.{groups_of}
use Rattle.dayfile.proofs.Accepted.{records_accepted, takes_routes, takes_groups, built_is, given_is}
use Rattle.dayfile.proofs.layout.Sections.fill.Goals as goal
use Rattle.dayfile.proofs.layout.Sections.fill.Goals.{After-is_empty}

pub unwrap-requires : goal.unwrap-requires
unwrap-requires c = let e = records_accepted c.args.self.now.bytes.now c.requires in search rules

is_groups : (c : After-is_empty) → c.put_groups.new.groups.items ≡ groups_of c.args.self.now.bytes.now
is_groups c = search rules

-- ---- with no groups
pub unwrap-requires-then-is_empty : goal.unwrap-requires-then-is_empty
unwrap-requires-then-is_empty c =
    let s = c.args.self.now in
    let taken = takes_routes s.bytes.now s.layout s.reads c.requires (c.deref.ensures.0 ∙ c.put_routes.ensures) in search rules

pub returns-then-is_empty : goal.returns-then-is_empty
returns-then-is_empty c =
    let s = c.args.self.now in
    let is-gs = is_groups (goal.at.returns-then-is_empty c).After-is_empty in
    let built = built_is s.bytes.now s.layout s.reads c.requires (c.deref.ensures.0 ∙ c.put_routes.ensures) is-gs (search rules) in search rules

-- ---- with groups
pub unwrap-requires-else-is_empty : goal.unwrap-requires-else-is_empty
unwrap-requires-else-is_empty c =
    let s = c.args.self.now in
    let is-gs = c.deref-else-is_empty-2.ensures.0 ∙ is_groups (goal.at.unwrap-requires-else-is_empty c).After-is_empty in
    let taken = takes_groups s.bytes.now s.layout s.reads c.requires (c.deref-else-is_empty.ensures.0 ∙ c.put_routes.ensures) is-gs (search rules) in search rules

pub returns-else-is_empty : goal.returns-else-is_empty
returns-else-is_empty c =
    let s = c.args.self.now in
    let is-gs = c.deref-else-is_empty-2.ensures.0 ∙ is_groups (goal.at.returns-else-is_empty c).After-is_empty in
    let given = given_is s.bytes.now s.layout s.reads c.requires (c.deref-else-is_empty.ensures.0 ∙ c.put_routes.ensures) is-gs (search rules) in search rules
