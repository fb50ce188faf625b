-- The refusals of a chain, as the buffer over it gives them.
use Rattle.evbuf_chain.specs.declared.fault.ChainFault.{ChainFault}
use Rattle.evbuf_chain.specs.declared.fault.ChainFault.TheVariants as chain
use Rattle.evbuf.specs.declared.fault.BufFault.{BufFault}
use Rattle.evbuf.specs.declared.fault.BufFault.TheVariants.{Memory, Spent}

-- want of memory stays want of memory, and a length that doesn't fit stays one
abbrev pub buf_fault : ChainFault → BufFault
buf_fault chain.Memory = Memory
buf_fault chain.Spent = Spent
