-- How a script port keeps its links: all of the script, and how many were opened and accepted.
use Rattle.std.specs.Prelude.{◌≤◌, take, drop, map, vec_len}
use Rattle.script_port.specs.declared.script_links.ScriptLinks.TheInside.{Inside}
use Rattle.script_port.specs.ScriptState.{LinksKept}

abbrev pub links_kept : Inside → LinksKept
links_kept l = record {
  state = record {
    waiting = drop l.accepted (take l.opened l.waits.items);
    ends = map (λ e. e.state) l.ends.items;
    turn = l.turn;
    poll_fails = l.poll_fails;
    closing = l.closing;
  };
  to_open = drop l.opened l.waits.items;
  to_come = map (λ e. e.to_come) l.ends.items;
}

-- what was accepted was opened, and no more was opened than there is
pub record IsLinks (l : Inside) : Type 0 where
  pub accepted : l.accepted ≤ l.opened
  pub opened : l.opened ≤ vec_len l.waits
