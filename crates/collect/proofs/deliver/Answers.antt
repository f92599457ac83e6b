-- `deliver` meets its contract.
use Rattle.collect.proofs.Delivering.{collected-records, relinked_records, channel_delivered}
use Rattle.collect.proofs.deliver.Goals as goal

pub link_records-requires : goal.link_records-requires
link_records-requires c =
    collected-records c.requires c.collect-n.ensures.0 c.collect-n.ensures.1

pub write_header-requires : goal.write_header-requires
write_header-requires c =
    relinked_records c.requires c.collect-n.ensures.0 c.collect-n.ensures.1 c.link_records.ensures

pub returns : goal.returns
returns c =
    channel_delivered c.requires c.collect-n.ensures.0 c.collect-n.ensures.1 c.link_records.ensures c.write_header.ensures
