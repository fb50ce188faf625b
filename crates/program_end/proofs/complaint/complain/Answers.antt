use Rattle.program_end.proofs.complaint.complain.Goals as goal

pub returns-in-ReadFault-clause-whole : goal.returns-in-ReadFault-clause-whole
returns-in-ReadFault-clause-whole g c = rw (c.in-ReadFault.is) c.write_text-in-ReadFault.ensures.whole

pub returns-in-ReadFault-clause-prefix : goal.returns-in-ReadFault-clause-prefix
returns-in-ReadFault-clause-prefix g c = rw (c.in-ReadFault.is) c.write_text-in-ReadFault.ensures.prefix

pub returns-in-WriteFault-clause-whole : goal.returns-in-WriteFault-clause-whole
returns-in-WriteFault-clause-whole g c = rw (c.in-WriteFault.is) c.write_text-in-WriteFault.ensures.whole

pub returns-in-WriteFault-clause-prefix : goal.returns-in-WriteFault-clause-prefix
returns-in-WriteFault-clause-prefix g c = rw (c.in-WriteFault.is) c.write_text-in-WriteFault.ensures.prefix

pub returns-in-PollFault-clause-whole : goal.returns-in-PollFault-clause-whole
returns-in-PollFault-clause-whole g c = rw (c.in-PollFault.is) c.write_text-in-PollFault.ensures.whole

pub returns-in-PollFault-clause-prefix : goal.returns-in-PollFault-clause-prefix
returns-in-PollFault-clause-prefix g c = rw (c.in-PollFault.is) c.write_text-in-PollFault.ensures.prefix

pub returns-in-OpenFault-clause-whole : goal.returns-in-OpenFault-clause-whole
returns-in-OpenFault-clause-whole g c = rw (c.in-OpenFault.is) c.write_text-in-OpenFault.ensures.whole

pub returns-in-OpenFault-clause-prefix : goal.returns-in-OpenFault-clause-prefix
returns-in-OpenFault-clause-prefix g c = rw (c.in-OpenFault.is) c.write_text-in-OpenFault.ensures.prefix
