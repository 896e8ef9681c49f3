mod KindNumbers
mod Middays
mod Tables
