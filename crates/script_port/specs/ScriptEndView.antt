-- How an end of a script port keeps its bytes: one list of all that the script ever brings in, and how far it came.
use Rattle.std.specs.Prelude.{◌≤◌, take, drop, vec_len}
use Rattle.script_port.specs.declared.script_end.ScriptEnd.TheInside.{Inside}
use Rattle.script_port.specs.ScriptState.{EndKept}

abbrev pub end_kept : Inside → EndKept
end_kept e = record {
  state = record {
    given = take e.given e.bytes.items;
    pending = drop e.given (take e.came e.bytes.items);
    eof = e.eof;
    read_fails = e.read_fails;
    may_take = e.may_take;
    write_fails = e.write_fails;
    wait = e.wait;
    decision = e.decision;
    spurred = e.spurred;
    taken = e.taken.items;
    tally = e.tally;
  };
  to_come = drop e.came e.bytes.items;
}

-- what was given has come in, and no more came in than there is
pub record IsEnd (e : Inside) : Type 0 where
  pub given : e.given ≤ e.came
  pub came : e.came ≤ vec_len e.bytes
