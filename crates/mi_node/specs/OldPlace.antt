-- The place that a link remembers, and the one that a packed one stands for.
use Rattle.std.specs.Prelude.{Option, Some, None, if◌then◌else◌, nat_lt}
use Rattle.mi_node.specs.declared.link.Link.{Link}
use Rattle.mi_node.specs.declared.old_place.OldPlace.{OldPlace}
use Rattle.mi_node.specs.declared.old_place.MaybePlace.TheInside.{Inside}

abbrev pub own_place : Link → OldPlace
own_place l = record { stamp = l.tag.stamp; back = l.back; forth = l.forth }

abbrev pub unpacked_place : Inside → Option OldPlace
unpacked_place a = if nat_lt a.stamp 9223372036854775808 then Some (record { stamp = a.stamp; back = a.back; forth = a.forth }) else None
