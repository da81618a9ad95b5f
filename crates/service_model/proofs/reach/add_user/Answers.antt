use Rattle.std.proofs.Common.{nat_eq, length, IfSome, ◌<◌, ◌&&◌, ◌||◌, ap, subst, sym, ◌∙◌}
use Rattle.std.specs.List.{All, list_any}
use Rattle.service_model.specs.Reach.{is_listed}
use Rattle.service_model.proofs.Noted.{members_within, item_within, key_within, noted_parts}
use Rattle.service_model.proofs.reach.add_user.Goals as goal

pub add_to_members-requires : goal.add_to_members-requires
add_to_members-requires c =
    subst (λ members. All (λ m. m.shape.0 < length c.args.users.now) members) (sym c.as_slice.ensures) (members_within (length c.args.users.now) c.args.shape.now c.requires)

pub add_to_part-requires : goal.add_to_part-requires
add_to_part-requires c =
    subst (λ n. IfSome c.args.shape.now.item (λ id. id.0 < n)) (sym c.add_to_members.ensures.size) (item_within (length c.args.users.now) c.args.shape.now c.requires)

pub add_to_part-requires-2 : goal.add_to_part-requires-2
add_to_part-requires-2 c =
    subst (λ n. IfSome c.args.shape.now.key (λ id. id.0 < n)) (sym (c.add_to_part.ensures.size ∙ c.add_to_members.ensures.size)) (key_within (length c.args.users.now) c.args.shape.now c.requires)

pub returns-clause-listed : goal.returns-clause-listed
returns-clause-listed c = λ part user.
    noted_parts c.args.shape.now part (is_listed c.args.users.now part user) (nat_eq user c.args.at) (is_listed c.add_to_members.new.users part user)
    (is_listed c.add_to_part.new.users part user) (is_listed c.add_to_part-2.new.users part user)
    (c.in_ok-add_to_members.ensures.listed part user ∙ ap (λ members. is_listed c.args.users.now part user || nat_eq user c.args.at && list_any (λ m. nat_eq part m.shape.0) members) c.as_slice.ensures)
    (c.in_ok-add_to_part.ensures.listed part user) (c.in_ok-add_to_part-2.ensures.listed part user)
